use Rattle.reg_binding.specs.Liveness.{Holds, flow_of, not_live}
use Rattle.reg_binding.proofs.live.live_variables.Given as goal

abbrev pub invariant-passes : goal.invariant-passes
invariant-passes g l = Holds (flow_of l.cfg) l.live

abbrev pub decreases-passes : goal.decreases-passes
decreases-passes g l = not_live l.live
