use Rattle.std.proofs.Common.{◌≡◌, length, drop}
use Rattle.dep_graph.specs.Offsets.{sums_from, sums_of}
use Rattle.dep_graph.specs.Sizes.{AreNear}
use Rattle.dep_graph.proofs.counter.sums_of.Given as goal

abbrev pub invariant-loop-op : goal.invariant-loop-op
invariant-loop-op l =
    (sums_from l.body l.sums.items (drop l.op-index l.body.ops.items) ≡ sums_of l.body) × (length l.sums.items ≡ l.op-index) × AreNear l.sums.items
