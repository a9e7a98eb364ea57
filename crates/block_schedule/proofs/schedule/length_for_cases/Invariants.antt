use Rattle.std.proofs.Common.{ℕ, ◌<◌, ◌≤◌, ◌^◌, take}
use Rattle.std.specs.List.{All}
use Rattle.block_schedule.specs.Schedules.{IsThereBefore}
use Rattle.block_schedule.proofs.schedule.length_for_cases.Given as goal

abbrev pub invariant-loop-operand : goal.invariant-loop-operand
invariant-loop-operand l = record {
  some : 1 ≤ l.length;
  small : l.length < 2 ^ 32;
  enough : All (λ c. IsThereBefore l.body.ops.items l.times c.0 l.length) (take l.operand-index l.cases);
  least : (len : ℕ) → 1 ≤ len → All (λ c. IsThereBefore l.body.ops.items l.times c.0 len) l.cases → l.length ≤ len;
}
