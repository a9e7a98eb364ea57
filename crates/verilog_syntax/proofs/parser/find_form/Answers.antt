use Rattle.std.proofs.Common.{◌≡◌, inl, inr, get_or, subst, sym, refl, ap, ◌∙◌, length, arith}
use Rattle.verilog_syntax.specs.declared.form.Form.TheVariants as form
use Rattle.verilog_syntax.specs.Forms.{classes_of}
use Rattle.verilog_syntax.specs.Parsing.{Common, tokens_in, IsReached}
use Rattle.verilog_syntax.proofs.Forms.{form_more, form_found, form_fits, forms_end}
use Rattle.verilog_syntax.proofs.parser.find_form.Goals as goal
use Rattle.verilog_syntax.proofs.parser.find_form.Goals.{then-longest-n, else-longest-n}

pub returns-then-n-classes : goal.returns-then-n-classes
returns-then-n-classes c =
    let x = get_or c.args.forms.now c.loop-form.form-index form.Start in
    let common = subst (λ y. Common y (tokens_in c.args.tokens.now) c.fitting-n.result) c.classes-classes.ensures c.fitting-n.ensures in
    let r = form_fits c.args.tokens.now x c.fitting-n.result common (c.if-n-classes.true ∙ ap length c.classes-classes.ensures) in
    (form_found c.args.forms.now c.loop-form.form-index c.loop-form-test.true, r.0, r.1)

pub loop-form-init : goal.loop-form-init
loop-form-init c = (λ k d h. absurd (omega (arith, h)), inl refl)

pub loop-form-preserved : goal.loop-form-preserved
loop-form-preserved c =
    let x = get_or c.args.forms.now c.loop-form.form-index form.Start in
    let common = subst (λ y. Common y (tokens_in c.args.tokens.now) c.fitting-n.result) c.classes-classes.ensures c.fitting-n.ensures in
    let other : c.fitting-n.result ≡ length (classes_of x) → ⊥ = λ e. c.if-n-classes.false (e ∙ sym (ap length c.classes-classes.ensures)) in
    elim c.if-longest-n.branch [
      | then-longest-n w ↦ (
        form_more (tokens_in c.args.tokens.now) c.loop-form.longest c.fitting-n.result _ c.args.forms.now c.loop-form.form-index c.loop-form-test.true common other
            (omega (arith, w.longest-is, w.if-longest-n.true)) (omega (arith, w.longest-is)) c.loop-form.invariant.0,
        subst (λ k. IsReached (tokens_in c.args.tokens.now) k c.args.forms.now) (sym w.longest-is) (inr (x, form_found c.args.forms.now c.loop-form.form-index c.loop-form-test.true, common)),
      )
      | else-longest-n w ↦ (
        form_more (tokens_in c.args.tokens.now) c.loop-form.longest c.fitting-n.result _ c.args.forms.now c.loop-form.form-index c.loop-form-test.true common other
            (omega (arith, w.longest-is)) (omega (arith, w.longest-is, w.if-longest-n.false)) c.loop-form.invariant.0,
        subst (λ k. IsReached (tokens_in c.args.tokens.now) k c.args.forms.now) (sym w.longest-is) c.loop-form.invariant.1,
      )
    ]

pub returns : goal.returns
returns c = (forms_end (tokens_in c.args.tokens.now) c.loop-form.longest c.args.forms.now c.loop-form.form-index c.loop-form-test.false c.loop-form.invariant.0, c.loop-form.invariant.1)
