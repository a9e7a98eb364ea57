use Rattle.std.proofs.Common.{◌≡◌, ◌⊎◌, inl, inr, ◌≤◌, ◌∙◌, ◌++◌, ◌∷◌, [], false, ltb, map, length, get_or, ap, ap₂, arith}
use Rattle.std.proofs.lemmas.Bool.{cases_Bool, ltb-true, ltb-false}
use Rattle.rtl_core.specs.declared.design.Atom.{Atom}
use Rattle.rtl_core.specs.declared.design.Reg.{Reg}
use Rattle.rtl_logic.specs.Pruning.{renamed_reg}
use Rattle.rtl_logic.proofs.Keeping.{left_more, left_same, kept_taken}
use Rattle.rtl_logic.proofs.Spreading.{no_reg}
use Rattle.rtl_logic.proofs.prune.registers_left.Goals as goal
use Rattle.rtl_logic.proofs.prune.registers_left.Goals.{then-marks-k+in_ok-push, else-marks-k}

pub loop-k-preserved : goal.loop-k-preserved
loop-k-preserved c = λ m n.
    let marks = c.args.marks.now in
    let regs = c.args.regs.now in
    let k = c.loop-k.k in
    let at_ : Reg = get_or regs k no_reg in
    elim c.if-marks-k.branch [
      | then-marks-k+in_ok-push w ↦
          let same : c.if-marks-k.left.items ≡ w.push.new.self.items = cc in
          left_more (renamed_reg m) marks regs k false no_reg c.loop-k.left.items c.if-marks-k.left.items (omega (arith, c.min-k-end.ensures)) (omega (arith, c.min-k-end.ensures)) w.if-marks-k.true (c.loop-k.invariant m n)
          (same
          ∙ (w.in_ok-push.ensures.items
          ∙ ap₂ (λ (a : Atom) (b : Atom). c.loop-k.left.items ++ record { bits = at_.bits; enable = a; next = b } ∷ []) (w.atom-enable.ensures m n) (w.atom-next.ensures m n)))
      | else-marks-k w ↦
          let same : c.if-marks-k.left.items ≡ c.loop-k.left.items = cc in
          same
          ∙ left_same (renamed_reg m) marks regs k false no_reg c.loop-k.left.items (omega (arith, c.min-k-end.ensures)) (omega (arith, c.min-k-end.ensures)) w.if-marks-k.false (c.loop-k.invariant m n)
    ]

pub returns : goal.returns
returns c = λ m n.
    let marks = c.args.marks.now in
    let regs = c.args.regs.now in
    let k = c.loop-k.k in
    let ended : (length marks ≤ k) ⊎ (length regs ≤ k) =
    elim (cases_Bool (ltb k (length marks))) [
      | inl yes_ ↦ let h = ltb-true k (length marks) yes_ in inr (omega (arith, h, c.min-k-end.ensures))
      | inr no_ ↦ inl (ltb-false k (length marks) no_)
    ] in
    c.loop-k.invariant m n ∙ ap (map (renamed_reg m)) (kept_taken marks regs k ended)
