use Rattle.std.proofs.Common.{◌≡◌, drop}
use Rattle.fsm_datapath.specs.Steps.{made_first}
use Rattle.fsm_datapath.proofs.places.variable_made.Given as goal

abbrev pub invariant-loop-out : goal.invariant-loop-out
invariant-loop-out l = made_first (drop l.out-index l.outs) l.op.0 ≡ made_first l.outs l.op.0
