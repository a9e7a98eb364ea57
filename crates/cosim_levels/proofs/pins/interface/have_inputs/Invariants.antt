use Rattle.std.proofs.Common.{◌≡◌, take}
use Rattle.cosim_levels.proofs.pins.interface.have_inputs.Given as goal

abbrev pub invariant-loop-k : goal.invariant-loop-k
invariant-loop-k l = take l.k l.inputs ≡ take l.k l.wanted
