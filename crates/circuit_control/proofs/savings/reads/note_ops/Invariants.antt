use Rattle.std.proofs.Common.{take}
use Rattle.std.specs.List.{list_any}
use Rattle.reg_binding.specs.Sets.{Gains}
use Rattle.reg_binding.specs.Liveness.{is_among, op_reads}
use Rattle.circuit_control.proofs.savings.reads.note_ops.Given as goal

abbrev pub invariant-loop-op : goal.invariant-loop-op
invariant-loop-op l = Gains l.initial.set l.set (λ n. list_any (λ op. is_among n (op_reads op)) (take l.op-index l.ops))
