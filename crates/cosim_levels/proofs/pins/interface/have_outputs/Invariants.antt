use Rattle.std.proofs.Common.{◌≡◌, map, take}
use Rattle.rtl_core.specs.Interface.{outer}
use Rattle.cosim_levels.proofs.pins.interface.have_outputs.Given as goal

abbrev pub invariant-loop-k : goal.invariant-loop-k
invariant-loop-k l = map outer (take l.k l.outputs) ≡ take l.k l.wanted
