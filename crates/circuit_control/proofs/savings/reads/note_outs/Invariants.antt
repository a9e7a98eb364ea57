use Rattle.std.proofs.Common.{take}
use Rattle.std.specs.List.{list_any}
use Rattle.reg_binding.specs.Sets.{Gains}
use Rattle.reg_binding.specs.Liveness.{is_among, out_reads}
use Rattle.circuit_control.proofs.savings.reads.note_outs.Given as goal

abbrev pub invariant-loop-out : goal.invariant-loop-out
invariant-loop-out l = Gains l.initial.set l.set (λ n. list_any (λ out. is_among n (out_reads out)) (take l.out-index l.outs))
