use Rattle.std.proofs.Common.{◌≡◌, List, map, sym, ap, ◌∙◌, subst}
use Rattle.std.proofs.lemmas.Result.{IfOk-weaker}
use Rattle.rtl_core.specs.declared.design.Atom.{Atom}
use Rattle.rtl_logic.specs.declared.select.Choice.{Choice}
use Rattle.rtl_logic.specs.Making.{circuit}
use Rattle.circuit_context.specs.Wanted.Roles.{choices_of}
use Rattle.circuit_control.specs.Gathered.{is_asked, TellTogether}
use Rattle.circuit_control.proofs.Wanted.{asked_together, any_tells}
use Rattle.circuit_control.proofs.asked.is_wanted.Goals as goal

pub returns : goal.returns
returns c = λ p names pushes entries begun are holds.
    let d = circuit c.args.logic.now in
    let whens : List Choice → List Atom = map (λ (choice : Choice). choice.when) in
    let bits : c.deref.result.now ≡ whens (choices_of c.args.target pushes) = c.deref.ensures.value ∙ (c.in_ok-bits.ensures ∙ ap whens (c.choices.ensures ∙ holds)) in
    let together : TellTogether p names d c.deref.result.now (is_asked c.args.target entries) =
    subst (λ l. TellTogether p names d l (is_asked c.args.target entries)) (sym bits) (asked_together p names d c.args.target pushes entries are) in
    IfOk-weaker c.any.result _ _ (λ a made. any_tells p names d (circuit c.any.new.self) c.deref.result.now a (is_asked c.args.target entries) begun together made) (c.any.ensures begun.sound together.fits)
