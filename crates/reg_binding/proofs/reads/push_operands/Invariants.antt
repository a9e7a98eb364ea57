use Rattle.std.proofs.Common.{◌≡◌, ◌++◌, drop}
use Rattle.std.specs.List.{flat_map}
use Rattle.reg_binding.specs.Liveness.{operand_reads}
use Rattle.reg_binding.proofs.reads.push_operands.Given as goal

abbrev pub invariant-loop-operand : goal.invariant-loop-operand
invariant-loop-operand l =
    l.reads.items ++ flat_map operand_reads (drop l.operand-index l.operands) ≡ l.initial.reads.items ++ flat_map operand_reads l.operands
