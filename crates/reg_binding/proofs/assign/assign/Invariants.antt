use Rattle.reg_binding.specs.Liveness.{summary_of, is_behind}
use Rattle.reg_binding.specs.Assigned.{IsAssigned}
use Rattle.reg_binding.proofs.assign.assign.Given as goal

abbrev pub invariant-loop-number : goal.invariant-loop-number
invariant-loop-number l = IsAssigned (λ node. is_behind l.live (summary_of node)) l.cfg.nodes.items l.number l.registers
