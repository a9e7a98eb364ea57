use Rattle.std.proofs.Common.{◌≡◌, ◌+◌, ◌++◌, [], ◌∷◌, length, take, slice_index, slice_index_or, subst, sym, ap, ◌∙◌, arith}
use Rattle.std.proofs.lemmas.List.{take_more, get_or_past, length-take-le}
use Rattle.unit_binding.specs.Copies.{IsTimedCopy}
use Rattle.unit_binding.proofs.Growing.{copies_grow}
use Rattle.unit_binding.proofs.copy.timed_body.Goals.{then-number-times, else-number-times, then-number-unit_of, else-number-unit_of}
use Rattle.unit_binding.proofs.copy.timed_body.Goals as goal

pub loop-number-preserved : goal.loop-number-preserved
loop-number-preserved c =
    let ops = c.args.body.now.ops.items in
    let times = c.args.times.now in
    let units = c.args.unit_of.now in
    let i = c.loop-number.number in
    let op = c.op-item.result in
    let copy = c.in_ok-timed_op.field-0 in
    let start_is : c.if-number-times.start ≡ slice_index times (i + 1) = elim c.if-number-times.branch [
      | then-number-times w ↦ w.start-is
      | else-number-times w ↦ w.start-is ∙ sym (get_or_past times (i + 1) 0 (omega (arith, w.if-number-times.false)))
    ] in
    let bound_is : c.if-number-unit_of.bound ≡ slice_index units i = elim c.if-number-unit_of.branch [
      | then-number-unit_of w ↦ w.bound-is
      | else-number-unit_of w ↦ w.bound-is ∙ sym (get_or_past units i 0 (omega (arith, w.if-number-unit_of.false)))
    ] in
    let op_is : op ≡ slice_index_or ops i op = rw c.deref-op-items.ensures.value at c.op-item.is in
    let took : take (i + 1) ops ≡ take i ops ++ op ∷ [] = take_more ops i op (omega arith) ∙ ap (λ x. take i ops ++ x ∷ []) (sym op_is) in
    let long : 0 + length (take i ops) ≡ i = omega (arith, length-take-le i ops (omega arith)) in
    let at_start = subst (λ t. IsTimedCopy op t c.if-number-unit_of.bound copy) start_is c.in_ok-timed_op.ensures in
    let on_unit = subst (λ u. IsTimedCopy op (slice_index times (i + 1)) u copy) bound_is at_start in
    let here = subst (λ n. IsTimedCopy op (slice_index times (n + 1)) (slice_index units n) copy) (sym long) on_unit in
    rw (took, c.in_ok-push.ensures.items) (copies_grow times units 0 (take i ops) c.loop-number.ops.items op copy c.loop-number.invariant here)
