-- What is made of the program that was found.
use Rattle.std.proofs.Common.{◌≡◌}
use Rattle.hls_base.specs.declared.refusal.Refusal.{Refusal}
use Rattle.c_tree.specs.View.{program_of}
use Rattle.c_meaning.specs.declared.checks.Checked.{Checked}
use Rattle.checked_source.specs.SourceFaults.{IsSourceFault}
use Rattle.checked_source.proofs.Outcomes.{passed_on}
use Rattle.c_elaborate.specs.Programs.{program_elaborated}
use Rattle.pieces.specs.declared.expanded.Expanded.{Expanded}
use Rattle.pieces.specs.Program.{expanded_of}
use Rattle.rtl_core.specs.Netlist.{netlist_of}
use Rattle.cycle_report.specs.PlainReport.{plain_of}
use Rattle.c_expand.specs.Expansion.{IsOverweight}
use Rattle.hls_flow.specs.FirstFault as f
use Rattle.hls_flow.specs.FirstFault.{IsFirstFault}
use Rattle.hls_flow.proofs.Made.{compilable, names_printable, settings_fit, synthesis}
use Rattle.hls_flow.proofs.Faults.{first_fault_once}
use Rattle.hls_flow.proofs.TopPlace.{too_large}
use Rattle.hls_flow.proofs.synth.synth.Goals as goal

pub returns-in_err-checked-clause-refused : goal.returns-in_err-checked-clause-refused
returns-in_err-checked-clause-refused c =
    let source = c.args.source.now in
    let top = c.args.settings.now.top in
    passed_on Checked _ c.in_err-checked.field-0.0 (IsSourceFault source top) (IsFirstFault source top) c.from_residual.ensures.1 (λ y e. e)
    (λ r fault. f.of_source fault) c.in_err-checked.ensures.refused

pub returns-in_err-checked-clause-once : goal.returns-in_err-checked-clause-once
returns-in_err-checked-clause-once c =
    let source = c.args.source.now in
    let top = c.args.settings.now.top in
    passed_on Checked _ c.in_err-checked.field-0.0 (IsSourceFault source top) (λ r. (q : Refusal) → IsFirstFault source top q → q ≡ r) c.from_residual.ensures.1 (λ y e. e)
    (λ r fault q other. first_fault_once source top r q (f.of_source fault) other) c.in_err-checked.ensures.refused

pub returns-in_err-expanded-clause-refused : goal.returns-in_err-expanded-clause-refused
returns-in_err-expanded-clause-refused c =
    let source = c.args.source.now in
    let top = c.args.settings.now.top in
    let program = program_of c.in_ok-checked.checked.program in
    let index = c.in_ok-checked.checked.top in
    passed_on Expanded _ c.in_err-expanded.field-0.0 (IsOverweight (program_elaborated program index)) (IsFirstFault source top) c.from_residual-in_err-expanded.ensures.1 (λ y e. e)
    (λ r large. too_large source top program index r c.in_ok-checked.ensures.found c.in_ok-checked.ensures.faultless c.in_ok-checked.ensures.top large) c.in_err-expanded.ensures.refused

pub returns-in_err-expanded-clause-once : goal.returns-in_err-expanded-clause-once
returns-in_err-expanded-clause-once c =
    let source = c.args.source.now in
    let top = c.args.settings.now.top in
    let program = program_of c.in_ok-checked.checked.program in
    let index = c.in_ok-checked.checked.top in
    passed_on Expanded _ c.in_err-expanded.field-0.0 (IsOverweight (program_elaborated program index)) (λ r. (q : Refusal) → IsFirstFault source top q → q ≡ r)
    c.from_residual-in_err-expanded.ensures.1 (λ y e. e)
    (λ r large q other. first_fault_once source top r q
    (too_large source top program index r c.in_ok-checked.ensures.found c.in_ok-checked.ensures.faultless c.in_ok-checked.ensures.top large) other) c.in_err-expanded.ensures.refused

pub scheduled-requires : goal.scheduled-requires
scheduled-requires c =
    compilable c.args.source.now c.args.settings.now.top (program_of c.in_ok-checked.checked.program) c.in_ok-checked.checked.top c.in_ok-checked.ensures.found c.in_ok-checked.ensures.faultless c.in_ok-checked.ensures.top
    c.in_ok-expanded.ensures.within (expanded_of c.in_ok-expanded.expanded) c.in_ok-expanded.ensures.made

pub returns-clause-made : goal.returns-clause-made
returns-clause-made c =
    let compiled = c.in_ok-compiled.compiled in
    let made = c.in_ok-compiled.ensures.made in
    synthesis c.args.source.now c.args.settings.now (program_of c.in_ok-checked.checked.program) c.in_ok-checked.checked.top (expanded_of c.in_ok-expanded.expanded) c.in_ok-made.made.module c.in_ok-made.made.report
    c.in_ok-checked.ensures.found c.in_ok-checked.ensures.faultless c.in_ok-checked.ensures.top c.in_ok-expanded.ensures.within c.in_ok-expanded.ensures.made (record {
      texts = record {
        report = plain_of compiled.report;
        report_is = c.in_ok-made.ensures.report;
        design = netlist_of compiled.design;
        module_is = c.in_ok-made.ensures.circuit;
        resources = record { base = made.scheduled.reported.base; built = made.scheduled.reported.built; kept = c.in_ok-compiled.ensures.kept };
      };
      made = made;
    })

pub texts_of-requires-clause-valid : goal.texts_of-requires-clause-valid
texts_of-requires-clause-valid c = c.in_ok-compiled.ensures.made.circuit.valid

pub texts_of-requires-clause-names : goal.texts_of-requires-clause-names
texts_of-requires-clause-names c =
    let compiled = c.in_ok-compiled.compiled in
    names_printable c.args.source.now c.args.settings.now (program_of c.in_ok-checked.checked.program) c.in_ok-checked.checked.top c.in_ok-checked.ensures.found c.in_ok-checked.ensures.faultless c.in_ok-checked.ensures.top c.in_ok-expanded.ensures.within
    (expanded_of c.in_ok-expanded.expanded) c.in_ok-expanded.ensures.made (plain_of compiled.report) (netlist_of compiled.design) c.in_ok-compiled.ensures.made

pub texts_of-requires-clause-settings : goal.texts_of-requires-clause-settings
texts_of-requires-clause-settings c = settings_fit c.args.settings.now c.requires c.in_ok-compiled.compiled.report.settings c.in_ok-compiled.ensures.made.scheduled.reported.built.settings_are
