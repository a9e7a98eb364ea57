use Rattle.std.proofs.Common.{take}
use Rattle.reg_binding.specs.Sets.{Gains}
use Rattle.reg_binding.specs.Liveness.{is_among}
use Rattle.reg_binding.proofs.live.insert_all.Given as goal

abbrev pub invariant-loop-variable : goal.invariant-loop-variable
invariant-loop-variable l = Gains l.initial.set l.set (λ n. is_among n (take l.variable-index l.variables))
