use Rattle.std.proofs.Common.{◌≡◌, length}
use Rattle.circuit_tests.proofs.cycles.adds_modulo_sixteen.Given as goal

abbrev pub invariant-loop-shown : goal.invariant-loop-shown
invariant-loop-shown g l = (length l.sim.netlist.inputs ≡ 1) × (length l.sim.netlist.outputs ≡ 1)
