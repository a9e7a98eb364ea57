use Rattle.std.proofs.Common.{◌≡◌, drop}
use Rattle.std.specs.List.{list_all}
use Rattle.program_validity.specs.Operands.{is_subscript}
use Rattle.program_validity.proofs.operands.are_subscripts.Given as goal

abbrev pub invariant-loop-operand : goal.invariant-loop-operand
invariant-loop-operand g l = list_all (is_subscript l.widths l.carried l.before) (drop l.operand-index l.operands) ≡ list_all (is_subscript l.widths l.carried l.before) l.operands
