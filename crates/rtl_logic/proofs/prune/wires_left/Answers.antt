use Rattle.std.proofs.Common.{◌≡◌, ◌⊎◌, inl, inr, ◌≤◌, ◌∙◌, ◌++◌, ◌∷◌, [], false, ltb, map, length, get_or, ap, arith}
use Rattle.std.proofs.lemmas.Bool.{cases_Bool, ltb-true, ltb-false}
use Rattle.rtl_core.specs.declared.design.Net.{Net}
use Rattle.rtl_core.specs.declared.design.Wire.{Wire}
use Rattle.rtl_logic.specs.Pruning.{renamed_wire}
use Rattle.rtl_logic.proofs.Keeping.{left_more, left_same, kept_taken}
use Rattle.rtl_logic.proofs.Spreading.{no_wire}
use Rattle.rtl_logic.proofs.prune.wires_left.Goals as goal
use Rattle.rtl_logic.proofs.prune.wires_left.Goals.{then-marks-k+in_ok-push, else-marks-k}

pub loop-k-preserved : goal.loop-k-preserved
loop-k-preserved c = λ m n.
    let marks = c.args.marks.now in
    let wires = c.args.wires.now in
    let k = c.loop-k.k in
    let at_ : Wire = get_or wires k no_wire in
    elim c.if-marks-k.branch [
      | then-marks-k+in_ok-push w ↦
          let same : c.if-marks-k.left.items ≡ w.push.new.self.items = cc in
          left_more (renamed_wire m) marks wires k false no_wire c.loop-k.left.items c.if-marks-k.left.items (omega (arith, c.min-k-end.ensures)) (omega (arith, c.min-k-end.ensures)) w.if-marks-k.true (c.loop-k.invariant m n)
          (same
          ∙ (w.in_ok-push.ensures.items
          ∙ ap (λ (e : Net). c.loop-k.left.items ++ record { bits = at_.bits; net = e } ∷ []) (w.net-net.ensures m n)))
      | else-marks-k w ↦
          let same : c.if-marks-k.left.items ≡ c.loop-k.left.items = cc in
          same
          ∙ left_same (renamed_wire m) marks wires k false no_wire c.loop-k.left.items (omega (arith, c.min-k-end.ensures)) (omega (arith, c.min-k-end.ensures)) w.if-marks-k.false (c.loop-k.invariant m n)
    ]

pub returns : goal.returns
returns c = λ m n.
    let marks = c.args.marks.now in
    let wires = c.args.wires.now in
    let k = c.loop-k.k in
    let ended : (length marks ≤ k) ⊎ (length wires ≤ k) =
    elim (cases_Bool (ltb k (length marks))) [
      | inl yes_ ↦ let h = ltb-true k (length marks) yes_ in inr (omega (arith, h, c.min-k-end.ensures))
      | inr no_ ↦ inl (ltb-false k (length marks) no_)
    ] in
    c.loop-k.invariant m n ∙ ap (map (renamed_wire m)) (kept_taken marks wires k ended)
