use Rattle.std.proofs.Common.{map, length, sym, ap, ◌∙◌}
use Rattle.cosim_levels.specs.Pins.FunctionPins.{shape_of}
use Rattle.cosim_levels.specs.Pins.Host.{Driven}
use Rattle.cosim_levels.specs.Pins.ModuleRun.{all_write_rows}
use Rattle.cosim_levels.proofs.PinsLemmas.Accesses.{arguments-clocked_all}
use Rattle.cosim_levels.proofs.pins.drive.begin.Goals as goal

pub start-requires : goal.start-requires
start-requires c =
    let rows = all_write_rows c.args.driver.now.arguments 0 (map shape_of c.deref.result.now) c.items.result.now in
    ap length c.items-2.ensures ∙ (c.requires.scalars ∙ sym (ap (λ (s : Driven). s.arguments) c.in_ok-write_arrays.ensures ∙ arguments-clocked_all c.args.driver.now rows))
