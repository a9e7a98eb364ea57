use Rattle.std.proofs.Common.{◌≡◌, drop}
use Rattle.std.specs.List.{list_all}
use Rattle.program_validity.specs.Checks.{operand_in_time}
use Rattle.program_validity.proofs.well_timed.flow.Flow.are_there.Given as goal

abbrev pub invariant-loop-operand : goal.invariant-loop-operand
invariant-loop-operand l =
    list_all (operand_in_time l.self.interval l.self.body.now l.later.start) (drop l.operand-index l.operands) ≡ list_all (operand_in_time l.self.interval l.self.body.now l.later.start) l.operands
