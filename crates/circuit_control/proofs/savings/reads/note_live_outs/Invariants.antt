use Rattle.std.proofs.Common.{take}
use Rattle.std.specs.List.{list_any}
use Rattle.reg_binding.specs.Sets.{has, Gains}
use Rattle.reg_binding.specs.Liveness.{goes_by}
use Rattle.circuit_control.proofs.savings.reads.note_live_outs.Given as goal

abbrev pub invariant-loop-out : goal.invariant-loop-out
invariant-loop-out l = Gains l.initial.set l.set (λ n. list_any (goes_by (has l.behind) n) (take l.out-index l.outs))
