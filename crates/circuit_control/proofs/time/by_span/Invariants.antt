use Rattle.std.proofs.Common.{take}
use Rattle.std.specs.Prelude.{flat_map}
use Rattle.std.specs.List.Sorted.{IsPermutation}
use Rattle.circuit_control.specs.Spans.{members}
use Rattle.circuit_control.proofs.time.by_span.Given as goal

abbrev pub invariant-loop-one : goal.invariant-loop-one
invariant-loop-one l = IsPermutation (take l.one-index l.all) (flat_map members l.groups.items)
