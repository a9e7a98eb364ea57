use Rattle.std.proofs.Common.{◌≡◌, take}
use Rattle.verilog_cycle.specs.Simulation.{words_modulo}
use Rattle.verilog_cycle.proofs.sim.powered_memory.Given as goal

abbrev pub invariant-loop-number : goal.invariant-loop-number
invariant-loop-number l = l.words.items ≡ words_modulo l.bits (take l.number-index l.numbers)
