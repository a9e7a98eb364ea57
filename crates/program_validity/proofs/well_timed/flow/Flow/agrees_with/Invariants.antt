use Rattle.std.proofs.Common.{◌≡◌, drop}
use Rattle.std.specs.List.{list_all}
use Rattle.program_validity.specs.Checks.{pair_in_time}
use Rattle.program_validity.proofs.well_timed.flow.Flow.agrees_with.Given as goal

abbrev pub invariant-loop-other : goal.invariant-loop-other
invariant-loop-other l =
    list_all (pair_in_time l.self.interval l.self.memories.now l.self.body.now l.op) (drop l.other-index l.others) ≡ list_all (pair_in_time l.self.interval l.self.memories.now l.self.body.now l.op) l.others
