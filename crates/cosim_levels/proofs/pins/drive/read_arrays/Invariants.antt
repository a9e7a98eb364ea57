use Rattle.std.proofs.Common.{◌≡◌, ◌++◌, map, drop}
use Rattle.cosim_levels.specs.Pins.FunctionPins.{shape_of}
use Rattle.cosim_levels.specs.Pins.ModuleRun.{read_arrays}
use Rattle.cosim_levels.proofs.pins.drive.read_arrays.Given as goal

abbrev pub invariant-loop-k : goal.invariant-loop-k
invariant-loop-k l =
    (l.all.items ++ read_arrays l.driver l.k (map shape_of (drop l.k l.arrays)) ≡ read_arrays l.initial.driver 0 (map shape_of l.arrays))
    × (l.driver.netlist ≡ l.initial.driver.netlist)
