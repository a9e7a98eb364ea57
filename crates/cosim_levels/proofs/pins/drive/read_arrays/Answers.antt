use Rattle.std.proofs.Common.{map, ap, ◌∙◌}
use Rattle.hls_base.specs.ArrayAddress.{addresses}
use Rattle.cosim_levels.specs.Pins.FunctionPins.{shape_of}
use Rattle.cosim_levels.specs.Pins.Host.{Driven}
use Rattle.cosim_levels.specs.Pins.ModuleRun.{read_arrays}
use Rattle.cosim_levels.proofs.PinsLemmas.Accesses.{array_read, netlist-behind}
use Rattle.cosim_levels.proofs.pins.drive.read_arrays.Goals as goal

pub loop-k-preserved : goal.loop-k-preserved
loop-k-preserved c = (
  array_read c.loop-k.driver c.read_array.new.driver c.loop-k.k c.args.arrays.now c.index-arrays-k.result c.loop-k.all.items c.push.new.self.items c.in_ok-read_array.field-0
      (read_arrays c.args.driver.now 0 (map shape_of c.args.arrays.now)) c.loop-k-test.true c.index-arrays-k.is c.in_ok-read_array.ensures.words c.in_ok-read_array.ensures.after c.in_ok-push.ensures.items
      c.loop-k.invariant.0,
  ap (λ (s : Driven). s.netlist) c.in_ok-read_array.ensures.after ∙ (netlist-behind c.loop-k.driver c.loop-k.k (addresses c.index-arrays-k.result.lengths.items) ∙ c.loop-k.invariant.1),
)
