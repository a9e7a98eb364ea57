use Rattle.std.proofs.Common.{◌≡◌, length}
use Rattle.circuit_tests.proofs.cycles.later_port_writes.Given as goal

abbrev pub invariant-loop-sent : goal.invariant-loop-sent
invariant-loop-sent g l = (length l.sim.netlist.inputs ≡ 1) × (length l.sim.netlist.outputs ≡ 1)
