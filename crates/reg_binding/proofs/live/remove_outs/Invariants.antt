use Rattle.std.proofs.Common.{take}
use Rattle.reg_binding.specs.Sets.{Loses}
use Rattle.reg_binding.specs.Liveness.{is_set}
use Rattle.reg_binding.proofs.live.remove_outs.Given as goal

abbrev pub invariant-loop-out : goal.invariant-loop-out
invariant-loop-out l = Loses l.initial.set l.set (is_set (take l.out-index l.outs))
