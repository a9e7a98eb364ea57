use Rattle.std.proofs.Common.{◌≡◌, ◌≤◌, ◌+◌, ◌*◌, ◌^◌, length, min}
use Rattle.std.specs.Prelude.{unsigned_abs}
use Rattle.dep_graph.specs.Offsets.{sums_of, offset_of}
use Rattle.program_validity.specs.Untimed.{untimed_body}
use Rattle.program_validity.specs.Sums.{offset_among}
use Rattle.program_validity.proofs.well_timed.counters.offset_of.Given as goal

abbrev pub invariant-loop-sum : goal.invariant-loop-sum
invariant-loop-sum l = record {
  value : offset_among (untimed_body l.body) l.limit l.sum.operand.value l.sum.constant l.guard ≡ offset_of (untimed_body l.body) (sums_of (untimed_body l.body)) l.fn.subscript l.guard;
  small : unsigned_abs l.sum.constant + min l.limit (2 ^ 32) * 2 ^ 64 ≤ 2 ^ 96;
  within : l.limit ≤ length l.body.ops.items;
}

abbrev pub decreases-loop-sum : goal.decreases-loop-sum
decreases-loop-sum l = l.limit
