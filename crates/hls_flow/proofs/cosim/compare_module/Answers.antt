use Rattle.std.proofs.Common.{◌≡◌, subst, Some, arith}
use Rattle.c_tree.specs.View.{function_of}
use Rattle.driven_circuits.proofs.ShortArrays.{shown_short}
use Rattle.rtl_core.specs.Netlist.{netlist_of}
use Rattle.cosim_levels.specs.Pins.ModuleRun.{module_run}
use Rattle.hls_flow.proofs.cosim.compare_module.Goals as goal

pub returns-clause-compared : goal.returns-clause-compared
returns-clause-compared c = record {
  shown = c.in_ok-shown.shown;
  run =
      subst (λ i. module_run (netlist_of c.args.read.design) i c.args.read.inputs.scalars c.args.read.inputs.arrays c.args.given.now.cycles ≡ Some c.in_ok-shown.shown) c.requires.interface
      c.in_ok-shown.ensures.shown;
  counted = c.short_cycles-cycles.ensures;
  difference_is = c.in_ok-difference.ensures;
}

pub short_cycles-cycles-requires : goal.short_cycles-cycles-requires
short_cycles-cycles-requires c = let few = c.requires.cycles in omega (arith, few)

pub first_difference-requires-clause-elements : goal.first_difference-requires-clause-elements
first_difference-requires-clause-elements c =
    let f = function_of c.args.function.now in
    let d = netlist_of c.args.read.design in
    let run = subst (λ i. module_run d i c.args.read.inputs.scalars c.args.read.inputs.arrays c.args.given.now.cycles ≡ Some c.in_ok-shown.shown) c.requires.interface c.in_ok-shown.ensures.shown in
    shown_short d f c.args.read.inputs.scalars c.args.read.inputs.arrays c.args.given.now.cycles c.in_ok-shown.shown run

pub first_difference-requires-clause-cycles : goal.first_difference-requires-clause-cycles
first_difference-requires-clause-cycles c = let few = c.requires.cycles in let same = c.short_cycles-cycles.ensures in omega (arith, few, same)
