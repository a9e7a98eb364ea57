use Rattle.std.proofs.Common.{◌≡◌, take}
use Rattle.cosim_levels.specs.Pins.Host.{clocked_all}
use Rattle.cosim_levels.specs.Pins.ModuleRun.{write_rows}
use Rattle.cosim_levels.proofs.pins.drive.write_array.Given as goal

abbrev pub invariant-loop-k : goal.invariant-loop-k
invariant-loop-k l = l.driver ≡ clocked_all l.initial.driver (write_rows l.initial.driver.arguments l.number (take l.k l.addresses) (take l.k l.words))
