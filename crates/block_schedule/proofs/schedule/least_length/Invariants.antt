use Rattle.std.proofs.Common.{ℕ, ◌<◌, ◌≤◌, ◌^◌}
use Rattle.block_schedule.specs.Schedules.{ready, EndIsReady, IsLongEnough}
use Rattle.block_schedule.proofs.schedule.least_length.Given as goal

abbrev pub invariant-loop-number : goal.invariant-loop-number
invariant-loop-number l = record {
  some : 1 ≤ l.length;
  small : l.length < 2 ^ 32;
  ends : EndIsReady l.block.body.ops.items l.times l.block.end l.length;
  ops : (k : ℕ) → k < l.number → ready l.block.body.ops.items l.times k ≤ l.length;
  least : (len : ℕ) → IsLongEnough l.block l.times len → l.length ≤ len;
}
