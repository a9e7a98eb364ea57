use Rattle.std.proofs.Common.{[], ◌∷◌, subst, ◌∙◌}
use Rattle.c_tree.specs.View.{program_of, function_of}
use Rattle.rtl_core.specs.Netlist.{netlist_of}
use Rattle.cycle_report.specs.PlainReport.{plain_of}
use Rattle.cosim_levels.specs.SoakProgram.{argument}
use Rattle.hls_flow.specs.SoakRun.{soak_settings, IsSoakRun, IsCompiled, IsAgreedRun}
use Rattle.hls_flow.proofs.Made.{runs_are_long}
use Rattle.hls_flow.proofs.SoakMade.{soak_run, agrees_with_c, both_some}
use Rattle.hls_flow.proofs.soak.summary_of.Goals as goal

pub returns : goal.returns
returns c =
    let number = c.args.number in
    let program = program_of c.in-Ok.checked.program in
    let index = c.in-Ok.checked.top in
    let f = function_of c.top_of-function.result.now in
    let report = plain_of c.in-Ok.compiled.report in
    let circuit = netlist_of c.in-Ok.compiled.design in
    let final = c.in-Ok-Some.ended in
    let count = c.in-Ok-Some.cycles in
    both_some c.told.result _ _ (IsSoakRun number) c.told.ensures.counts c.told.ensures.returned
    (λ s counts returned. soak_run number program index f report circuit final count c.in_ok-program.program.muls
    (subst (λ source. IsCompiled source program index report circuit) (c.items.ensures ∙ c.in_ok-program.ensures.text) c.in-Ok.ensures.made)
    c.top_of-function.ensures.item c.top_of-function.ensures.body
    (subst (λ elements. IsAgreedRun program index f (argument number ∷ []) elements report circuit final count) c.in_ok-program.ensures.arrays
    (subst (λ scalars. IsAgreedRun program index f scalars c.in_ok-program.program.inputs.arrays report circuit final count) c.in_ok-program.ensures.scalars (rw c.in-Ok-Some.field-0-is at c.in-Ok-Some.ensures)))
    c.in_ok-program.ensures.products s counts returned)

pub run_levels-requires-clause-agrees : goal.run_levels-requires-clause-agrees
run_levels-requires-clause-agrees c =
    agrees_with_c _ (program_of c.in-Ok.checked.program) c.in-Ok.checked.top (function_of c.top_of-function.result.now) (plain_of c.in-Ok.compiled.report) (netlist_of c.in-Ok.compiled.design)
    c.in-Ok.ensures.made c.top_of-function.ensures.item

pub run_levels-requires-clause-long : goal.run_levels-requires-clause-long
run_levels-requires-clause-long c =
    runs_are_long soak_settings (program_of c.in-Ok.checked.program) c.in-Ok.checked.top (plain_of c.in-Ok.compiled.report) (netlist_of c.in-Ok.compiled.design) c.in-Ok.ensures.made.named c.in-Ok.ensures.made.scheduled
