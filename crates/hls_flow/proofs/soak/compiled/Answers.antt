use Rattle.std.proofs.Common.{◌≡◌, [], Some, subst}
use Rattle.c_tree.specs.View.{program_of}
use Rattle.c_meaning.specs.Checks.Programs.{program_faults, top_name}
use Rattle.c_elaborate.specs.Programs.{program_elaborated}
use Rattle.c_expand.specs.Expansion.{expansion}
use Rattle.pieces.specs.Program.{expanded_of}
use Rattle.rtl_core.specs.Netlist.{netlist_of}
use Rattle.cycle_report.specs.PlainReport.{plain_of}
use Rattle.hls_base.specs.declared.settings.Settings.{Settings}
use Rattle.hls_flow.specs.Made.{HasScheduledCircuit}
use Rattle.hls_flow.specs.SoakRun.{soak_settings}
use Rattle.hls_flow.proofs.Made.{compilable, faultless_source, promise_of}
use Rattle.hls_flow.proofs.Ended.{runs_end}
use Rattle.hls_flow.proofs.soak.compiled.Goals as goal

pub scheduled-requires : goal.scheduled-requires
scheduled-requires c =
    compilable c.args.source.now c.in_ok-settings.settings.top (program_of c.in_ok-checked.checked.program) c.in_ok-checked.checked.top c.in_ok-checked.ensures.found c.in_ok-checked.ensures.faultless
    c.in_ok-checked.ensures.top c.in_ok-expanded.ensures.within (expanded_of c.in_ok-expanded.expanded) c.in_ok-expanded.ensures.made

pub returns-clause-timely : goal.returns-clause-timely
returns-clause-timely c =
    let program = program_of c.in_ok-checked.checked.program in
    let index = c.in_ok-checked.checked.top in
    let settings = c.in_ok-settings.settings in
    let compiled = c.in_ok-compiled.compiled in
    runs_end c.clocked_runs_end_in_time.ensures c.args.source.now program index settings.top
    (faultless_source c.args.source.now settings.top program index c.in_ok-checked.ensures.found c.in_ok-checked.ensures.faultless c.in_ok-checked.ensures.top) c.in_ok-expanded.ensures.within
    c.in_ok-expanded.expanded c.in_ok-expanded.ensures.made settings compiled.untimed compiled.timed c.in_ok-compiled.ensures.compiled

pub returns-clause-made : goal.returns-clause-made
returns-clause-made c =
    let program = program_of c.in_ok-checked.checked.program in
    let index = c.in_ok-checked.checked.top in
    let report = plain_of c.in_ok-compiled.compiled.report in
    let circuit = netlist_of c.in_ok-compiled.compiled.design in
    let faultless = subst (λ (s : Settings). program_faults program s.top ≡ []) c.in_ok-settings.ensures c.in_ok-checked.ensures.faultless in
    let named = subst (λ (s : Settings). top_name program index ≡ Some s.top) c.in_ok-settings.ensures c.in_ok-checked.ensures.top in
    let made : HasScheduledCircuit soak_settings (expansion (program_elaborated program index)) report circuit =
    subst (λ e. HasScheduledCircuit soak_settings e report circuit) c.in_ok-expanded.ensures.made
    (subst (λ s. HasScheduledCircuit s (expanded_of c.in_ok-expanded.expanded) report circuit) c.in_ok-settings.ensures c.in_ok-compiled.ensures.made) in
    record {
      is = c.in_ok-checked.ensures.found;
      faultless = faultless;
      named = named;
      within = c.in_ok-expanded.ensures.within;
      scheduled = made.scheduled;
      valid = made.circuit.valid;
      promise = promise_of c.args.source.now soak_settings program index c.in_ok-checked.ensures.found faultless named c.in_ok-expanded.ensures.within report circuit made;
    }
