use Rattle.std.proofs.Common.{◌≡◌, drop}
use Rattle.program_validity.specs.Checks.{ops_in_time, body_in_time}
use Rattle.program_validity.proofs.well_timed.flow.Flow.is_well_timed.Given as goal

abbrev pub invariant-loop-index : goal.invariant-loop-index
invariant-loop-index l =
    ops_in_time l.self.interval l.self.memories.now l.self.body.now (drop l.index l.self.body.now.ops.items) ≡ body_in_time l.self.interval l.self.memories.now l.self.body.now
