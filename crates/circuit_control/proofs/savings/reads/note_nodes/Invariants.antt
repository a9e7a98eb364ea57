use Rattle.std.proofs.Common.{take}
use Rattle.std.specs.List.{list_any}
use Rattle.reg_binding.specs.Sets.{Gains}
use Rattle.reg_binding.specs.Liveness.{IsSized}
use Rattle.datapath.specs.LeftOut.{is_read_in}
use Rattle.circuit_control.proofs.savings.reads.note_nodes.Given as goal

abbrev pub invariant-loop-node : goal.invariant-loop-node
invariant-loop-node l = IsSized l.live → Gains l.initial.set l.set (λ n. list_any (is_read_in l.live n) (take l.node-index l.nodes))
