use Rattle.std.proofs.Common.{rules, ◌≡◌, false, Some, length, sym, ap, ◌∙◌, subst, arith}
use Rattle.std.specs.Prelude.{is_some}
use Rattle.c_tree.specs.View.{program_of, function_of}
use Rattle.c_elaborate.specs.Programs.{program_elaborated}
use Rattle.c_expand.specs.Expansion.{expansion}
use Rattle.rtl_core.specs.Netlist.{netlist_of}
use Rattle.rtl_core.specs.Interface.{Interface, HasPins}
use Rattle.cycle_report.specs.PlainReport.{plain_of}
use Rattle.cosim_levels.specs.Pins.ModuleRun.{module_run}
use Rattle.driven_circuits.proofs.ShortArrays.{shown_short}
use Rattle.hls_flow.specs.SoakRun.{most, IsAgreedRun}
use Rattle.hls_flow.proofs.ScalarCount.{scalar_count}
use Rattle.hls_flow.proofs.ShortCycles.{agreed_cycles}
use Rattle.hls_flow.proofs.Ended.{ends_in_c}
use Rattle.hls_flow.proofs.SoakMade.{some_at, none_left}
use Rattle.hls_flow.proofs.soak.run_levels.Goals as goal

pub module_level-requires-clause-valid : goal.module_level-requires-clause-valid
module_level-requires-clause-valid c = c.requires.agrees.valid

pub module_level-requires-clause-pins : goal.module_level-requires-clause-pins
module_level-requires-clause-pins c = subst (HasPins (netlist_of c.args.compiled.design)) (sym c.in_ok-interface.ensures) c.requires.agrees.agrees.pins

pub module_level-requires-clause-scalars : goal.module_level-requires-clause-scalars
module_level-requires-clause-scalars c =
    scalar_count (function_of c.args.function.now).params c.args.inputs.now.scalars c.args.inputs.now.arrays c.requires.fit
    ∙ sym (ap (λ (i : Interface). length i.scalars) c.in_ok-interface.ensures)

pub short_cycles-cycles-requires : goal.short_cycles-cycles-requires
short_cycles-cycles-requires c =
    let f = function_of c.args.function.now in
    let d = netlist_of c.args.compiled.design in
    let shown = c.in_ok-shown.shown in
    let run = subst (λ i. module_run d i c.args.inputs.now.scalars c.args.inputs.now.arrays most ≡ Some shown) c.in_ok-interface.ensures c.in_ok-shown.ensures.shown in
    let few = agreed_cycles (program_of c.args.checked.now.program) c.args.checked.now.top f (plain_of c.args.compiled.report) d c.requires.agrees c.requires.long
    c.args.inputs.now.scalars c.args.inputs.now.arrays c.requires.fit most most c.in_ok-ended.ended c.in_ok-ended.ensures.ended shown run in
    omega (arith, few)

pub first_difference-requires-clause-elements : goal.first_difference-requires-clause-elements
first_difference-requires-clause-elements c =
    let f = function_of c.args.function.now in
    let d = netlist_of c.args.compiled.design in
    let shown = c.in_ok-shown.shown in
    let run = subst (λ i. module_run d i c.args.inputs.now.scalars c.args.inputs.now.arrays most ≡ Some shown) c.in_ok-interface.ensures c.in_ok-shown.ensures.shown in
    shown_short d f c.args.inputs.now.scalars c.args.inputs.now.arrays most shown run

pub first_difference-requires-clause-cycles : goal.first_difference-requires-clause-cycles
first_difference-requires-clause-cycles c =
    let f = function_of c.args.function.now in
    let d = netlist_of c.args.compiled.design in
    let shown = c.in_ok-shown.shown in
    let run = subst (λ i. module_run d i c.args.inputs.now.scalars c.args.inputs.now.arrays most ≡ Some shown) c.in_ok-interface.ensures c.in_ok-shown.ensures.shown in
    let few = agreed_cycles (program_of c.args.checked.now.program) c.args.checked.now.top f (plain_of c.args.compiled.report) d c.requires.agrees c.requires.long
    c.args.inputs.now.scalars c.args.inputs.now.arrays c.requires.fit most most c.in_ok-ended.ended c.in_ok-ended.ensures.ended shown run in
    let same = c.short_cycles-cycles.ensures in
    omega (arith, few, same)

pub clocked_steps-requires : goal.clocked_steps-requires
clocked_steps-requires c =
    let program = program_of c.args.checked.now.program in
    let index = c.args.checked.now.top in
    let final = c.in_ok-ended.ended in
    let inputs = c.args.inputs.now in
    let ends = ends_in_c program index (function_of c.args.function.now) inputs most final c.requires.agrees.function c.requires.fit (omega arith) c.in_ok-ended.ensures.ended in
    (expansion (program_elaborated program index), final.ret, final.arrays, c.requires.timely inputs final.ret final.arrays ends)

pub returns : goal.returns
returns c =
    let program = program_of c.args.checked.now.program in
    let index = c.args.checked.now.top in
    let f = function_of c.args.function.now in
    let d = netlist_of c.args.compiled.design in
    let shown = c.in_ok-shown.shown in
    let none : is_some c.in_ok-difference.difference ≡ false = search rules in
    some_at c.counted.result c.in_ok-ended.ended c.short_cycles-cycles.result (λ final count. IsAgreedRun program index f c.args.inputs.now.scalars c.args.inputs.now.arrays (plain_of c.args.compiled.report) d final count) c.counted.ensures (record {
      ends = c.in_ok-ended.ensures.ended;
      counted = c.short_cycles-cycles.ensures;
      shown = shown;
      run = subst (λ i. module_run d i c.args.inputs.now.scalars c.args.inputs.now.arrays most ≡ Some shown) c.in_ok-interface.ensures c.in_ok-shown.ensures.shown;
      same = sym c.in_ok-difference.ensures ∙ none_left c.in_ok-difference.difference none;
    })
