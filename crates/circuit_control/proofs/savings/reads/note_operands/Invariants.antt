use Rattle.std.proofs.Common.{take}
use Rattle.std.specs.List.{list_any}
use Rattle.reg_binding.specs.Sets.{Gains}
use Rattle.reg_binding.specs.Liveness.{is_among, operand_reads}
use Rattle.circuit_control.proofs.savings.reads.note_operands.Given as goal

abbrev pub invariant-loop-operand : goal.invariant-loop-operand
invariant-loop-operand l = Gains l.initial.set l.set (λ n. list_any (λ x. is_among n (operand_reads x)) (take l.operand-index l.operands))
