-- What the texts that were made say of the source.
use Rattle.std.proofs.Common.{◌≡◌, ℕ, ◌≤◌, List, [], Some, sym, ap, ◌∙◌, subst}
use Rattle.std.specs.Prelude.{slice_get}
use Rattle.hls_base.specs.declared.settings.Settings.{Settings}
use Rattle.c_tree.specs.Tree.{FunctionTree, ProgramTree}
use Rattle.c_meaning.specs.Checks.Programs.{program_faults, top_name}
use Rattle.rtl_core.specs.Netlist.{Netlist}
use Rattle.verilog_print.specs.PrintableNames.{HasPrintableNames}
use Rattle.cycle_report.specs.PlainReport.{PlainReport}
use Rattle.cycle_report.specs.ReportForm.{IsName, IsSettings}
use Rattle.cosim_levels.specs.Pins.FunctionPins.{interface_of}
use Rattle.checked_source.specs.Sources.{IsTheProgramOf, end_of}
use Rattle.checked_source.proofs.BodyOnce.{top_of}
use Rattle.c_elaborate.specs.Programs.{program_elaborated}
use Rattle.pieces.specs.Program.{ExpandedTree}
use Rattle.c_expand.specs.Expansion.{expansion, expanded_weight}
use Rattle.compile_steps.specs.Reports.{allowed_units}
use Rattle.source_answers.specs.SourceRuns.{IsFaultless}
use Rattle.source_answers.specs.CompiledAnswers.{AnswersAlways}
use Rattle.source_answers.proofs.CompiledAnswers.Whole.{answer}
use Rattle.compile_steps.specs.LongRuns.{RunsAreLong}
use Rattle.compile_steps.proofs.LongRuns.Whole.{runs_long}
use Rattle.c_meaning.specs.Run.{function_at}
use Rattle.promises.specs.DesignPromise.Promise.{KeepsPromise}
use Rattle.promises.proofs.DesignPromise.Whole.{promise_kept}
use Rattle.promises.specs.Compilable.{BecomesCompilable}
use Rattle.compile_steps.specs.Flat.{passes_of}
use Rattle.source_validity.proofs.AcceptedPrograms.Flat.{flat_valid}
use Rattle.promises.proofs.Compilable.{accepted_compilable}
use Rattle.hls_flow.specs.FirstFault.{IsAccepted}
use Rattle.hls_flow.specs.Synthesis.{AreInRange, IsScheduledReport, IsSynthesis}
use Rattle.hls_flow.specs.Made.{HasScheduledCircuit, HasScheduledTexts}
use Rattle.hls_flow.proofs.PinNames.{printable}
use Rattle.hls_flow.proofs.Faults.{accepted_has_no_fault}

abbrev pub accepted_of : (source top : List ℕ) (p : ProgramTree) (index : ℕ) → IsTheProgramOf source p → program_faults p top ≡ [] → top_name p index ≡ Some top
    → expanded_weight (program_elaborated p index) ≤ 8192 → IsAccepted source top
accepted_of source top p index the faultless named within =
    let is = top_of p index top named in
    record { program = p; is = the; faultless = faultless; index = index; function = is.0; top_is = is.1; within = within }

-- the source as the laws on the way to the clocked run take it
pub faultless_source : (source top : List ℕ) (p : ProgramTree) (index : ℕ) → IsTheProgramOf source p → program_faults p top ≡ [] → top_name p index ≡ Some top → IsFaultless source p index top
faultless_source source top p index the faultless named = record {
  tokens = the.is.replaced.tokens;
  replaced = the.is.tokens;
  end = end_of source;
  spelled = the.is.replaced.spelled;
  becomes = the.is.replaced.becomes;
  derives = the.is.is.0;
  named = named;
  faultless = faultless;
}

-- what such a source is expanded to can be compiled where it is not too large
pub compilable : (source top : List ℕ) (p : ProgramTree) (index : ℕ) → IsTheProgramOf source p → program_faults p top ≡ [] → top_name p index ≡ Some top → expanded_weight (program_elaborated p index) ≤ 8192
    → (e : ExpandedTree) → e ≡ expansion (program_elaborated p index) → BecomesCompilable e
compilable source top p index the faultless named within e same = accepted_compilable source p index top (faultless_source source top p index the faultless named) within e same

-- the circuit of a source without faults keeps the promise
pub promise_of : (source : List ℕ) (settings : Settings) (p : ProgramTree) (index : ℕ) → IsTheProgramOf source p → program_faults p settings.top ≡ [] → top_name p index ≡ Some settings.top → expanded_weight (program_elaborated p index) ≤ 8192
    → (report : PlainReport) (d : Netlist) → HasScheduledCircuit settings (expansion (program_elaborated p index)) report d → (f : FunctionTree) → function_at (slice_get p.items index) ≡ Some f
    → KeepsPromise p index settings.top f report d
promise_of source settings p index the faultless named within report d made f is =
    let s = made.scheduled in
    let fine = faultless_source source settings.top p index the faultless named in
    promise_kept source p index settings.top fine f is (passes_of settings) s.untimed s.flat (flat_valid source p index settings.top fine within (passes_of settings) s.untimed s.flat (sym s.is_timed.frame ∙ s.frame))
    (allowed_units settings) s.timed report.loops s.is_timed s.frame report settings d s.reported made.circuit

-- the pins of such a circuit are those of its function
pub names_printable : (source : List ℕ) (settings : Settings) (p : ProgramTree) (index : ℕ) → IsTheProgramOf source p → program_faults p settings.top ≡ [] → top_name p index ≡ Some settings.top → expanded_weight (program_elaborated p index) ≤ 8192
    → (e : ExpandedTree) → e ≡ expansion (program_elaborated p index) → (report : PlainReport) (d : Netlist) → HasScheduledCircuit settings e report d → HasPrintableNames d
names_printable source settings p index the faultless named within e same report d made =
    let top = top_of p index settings.top named in
    let all = subst (λ x. HasScheduledCircuit settings x report d) same made in
    let promise : KeepsPromise p index settings.top top.0 report d = promise_of source settings p index the faultless named within report d all top.0 (ap function_at top.1.item) in
    printable d (interface_of top.0) promise.agrees.pins

-- the settings of a report are those of its text where the name of the top function is one
pub settings_fit : (s : Settings) → AreInRange s → (t : Settings) → t ≡ s → IsName t.top → IsSettings t
settings_fit s range t same name =
    let own : IsName s.top → IsSettings s = λ top. record {
      top = top;
      mul_low = range.mul_low;
      mul_high = range.mul_high;
      div_low = range.div_low;
      div_high = range.div_high;
      ports_low = range.ports_low;
      ports_high = range.ports_high;
      period_high = range.period_high;
    } in
    subst (λ (x : Settings). IsName x.top → IsSettings x) (sym same) own name

answers_always : (source : List ℕ) (settings : Settings) (p : ProgramTree) (index : ℕ) → IsTheProgramOf source p → program_faults p settings.top ≡ [] → top_name p index ≡ Some settings.top → expanded_weight (program_elaborated p index) ≤ 8192
    → (report : PlainReport) (d : Netlist) (s : IsScheduledReport settings (expansion (program_elaborated p index)) report d) → AnswersAlways p index s.timed report.rows
answers_always source settings p index the faultless named within report d s =
    let fine = faultless_source source settings.top p index the faultless named in
    answer source p index settings.top fine (passes_of settings) s.untimed s.flat (flat_valid source p index settings.top fine within (passes_of settings) s.untimed s.flat (sym s.is_timed.frame ∙ s.frame)) (allowed_units settings) s.timed report.loops s.is_timed s.frame report.rows s.reported.rows

pub runs_are_long : (settings : Settings) (p : ProgramTree) (index : ℕ) (report : PlainReport) (d : Netlist) → top_name p index ≡ Some settings.top → IsScheduledReport settings (expansion (program_elaborated p index)) report d → RunsAreLong p index report
runs_are_long settings p index report d named s = runs_long p index settings.top named (passes_of settings) s.untimed s.flat (allowed_units settings) s.timed report.loops s.is_timed report s.longer

pub synthesis : (source : List ℕ) (settings : Settings) (p : ProgramTree) (index : ℕ) (e : ExpandedTree) (m r : List ℕ) → IsTheProgramOf source p → program_faults p settings.top ≡ []
    → top_name p index ≡ Some settings.top → expanded_weight (program_elaborated p index) ≤ 8192 → e ≡ expansion (program_elaborated p index) → HasScheduledTexts settings e m r → IsSynthesis source settings m r
synthesis source settings p index e m r the faultless named within same made =
    let accepted : IsAccepted source settings.top = accepted_of source settings.top p index the faultless named within in
    let all : HasScheduledTexts settings (expansion (program_elaborated p index)) m r = subst (λ x. HasScheduledTexts settings x m r) same made in
    let t = all.texts in
    let promise : KeepsPromise p index settings.top accepted.function t.report t.design =
    promise_of source settings p index the faultless named within t.report t.design all.made accepted.function (ap function_at accepted.top_is.item) in
    record {
      accepted = accepted;
      no_fault = λ fault first. accepted_has_no_fault source settings.top fault accepted first;
      texts = t;
      named = promise.named;
      agrees = promise.agrees;
      scheduled = all.made.scheduled;
      answers = answers_always source settings p index the faultless named within t.report t.design all.made.scheduled;
      long = runs_are_long settings p index t.report t.design named all.made.scheduled;
    }
