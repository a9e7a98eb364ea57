use Rattle.std.proofs.Common.{◌<◌, length, sym, subst, arith}
use Rattle.std.specs.Prelude.{flat_map}
use Rattle.std.specs.List.Sorted.{IsPermutation}
use Rattle.std.proofs.lemmas.List.{take_more}
use Rattle.std.proofs.lemmas.List.Sorted.{IsPermutation-push_more}
use Rattle.circuit_control.specs.Spans.{members}
use Rattle.circuit_control.proofs.Within.{no_span}
use Rattle.circuit_control.proofs.time.by_span.Goals as goal

pub loop-one-preserved : goal.loop-one-preserved
loop-one-preserved c =
    let h : c.loop-one.one-index < length c.args.all.now = omega arith in
    subst (λ l. IsPermutation l (flat_map members c.join_group.new.groups.items)) (sym (take_more c.args.all.now c.loop-one.one-index no_span h))
    (IsPermutation-push_more _ _ _ _ c.loop-one.invariant c.in_ok-place.ensures)
