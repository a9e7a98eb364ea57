-- What it is that a synthesis is correct: the module is a circuit that agrees with the C program, to the cycle that the report's formula gives.
use Rattle.std.specs.Prelude.{◌≡◌, ℕ, ◌≤◌, List, ◌++◌, codes}
use Rattle.hls_base.specs.declared.refusal.Refusal.{Refusal}
use Rattle.hls_base.specs.declared.settings.Settings.{Settings}
use Rattle.c_meaning.specs.Run.{first_contents}
use Rattle.rtl_core.specs.Netlist.{Netlist}
use Rattle.rtl_core.specs.ModuleText.{IsModuleText}
use Rattle.rtl_core.specs.Agreement.{Agrees}
use Rattle.cycle_report.specs.PlainReport.{PlainReport}
use Rattle.cycle_report.specs.ReportForm.{IsReport}
use Rattle.ir_core.specs.declared.cfg.Cfg.{Cfg}
use Rattle.ir_core.specs.declared.stamp.Untimed.{Untimed}
use Rattle.ir_core.specs.declared.timed.Timed.{Timed}
use Rattle.pieces.specs.Program.{ExpandedTree}
use Rattle.ir_lower.specs.Frames.{frame_view}
use Rattle.compile_steps.specs.Flat.{passes_of, IsFlatOf}
use Rattle.compile_steps.specs.Resets.{expanded_frame, reset_cycles}
use Rattle.compile_steps.specs.Reports.{allowed_units, IsTimed, EachNodeCounts, ReportsDesign, IsReportOf, KeepsSettings}
use Rattle.source_answers.specs.CompiledAnswers.{AnswersAlways}
use Rattle.compile_steps.specs.LongRuns.{RunsAreLong}
use Rattle.cosim_levels.specs.Pins.FunctionPins.{interface_of}
use Rattle.cosim_levels.specs.CAnswers.{c_answers}
use Rattle.hls_flow.specs.FirstFault.{IsFirstFault, IsAccepted, expansion_of}

-- the ranges of the numbers that a user can ask for
pub record AreInRange (s : Settings) : Type 0 where
  pub mul_low : 1 ≤ s.mul
  pub mul_high : s.mul ≤ 8
  pub div_low : 1 ≤ s.div
  pub div_high : s.div ≤ 4
  pub ports_low : 1 ≤ s.ports
  pub ports_high : s.ports ≤ 2
  pub period_high : s.period ≤ 1000

-- The report names what the circuit is built of and what was asked for, and the circuit has no more than that.
pub record ReportsCircuit (report : PlainReport) (settings : Settings) (design : Netlist) : Type 0 where
  pub base : report.base ≡ 1
  pub built : ReportsDesign report settings design
  pub kept : KeepsSettings report settings

-- The module's bytes are the text of a circuit, and the report's bytes the text of a report that names what this circuit is built of, and the settings.
pub record HasTexts (settings : Settings) (module_bytes report_bytes : List ℕ) : Type 0 where
  pub report : PlainReport
  pub report_is : IsReport report_bytes report
  pub design : Netlist
  pub module_is : IsModuleText module_bytes design
  pub resources : ReportsCircuit report settings design

-- The report gives the cycles of the blocks and loops that an expanded program becomes by lowering, numbering, conversion and layout, each with the least times that its dependences and the orders of its units allow; the loops are those that the report names, each at its least interval. Beside the blocks stands what the expanded program has beside its pieces, and so the report's initial cycles are those of its kept scalars and arrays.
pub record IsScheduledReport (settings : Settings) (expanded : ExpandedTree) (report : PlainReport) (design : Netlist) : Type 0 where
  pub untimed : Cfg Untimed
  pub timed : Cfg Timed
  pub frame : frame_view timed.frame ≡ expanded_frame expanded
  pub init : report.init ≡ reset_cycles (expanded_frame expanded)
  pub flat : IsFlatOf expanded (passes_of settings) untimed
  pub is_timed : IsTimed (allowed_units settings) untimed timed report.loops
  pub reported : IsReportOf report settings timed design
  pub longer : EachNodeCounts timed.nodes.items report

-- What a synthesis gives: the source is accepted, so that it has no fault, and both files have their texts. The module is a circuit that agrees with the C program, for every power-up and every list of pin values after a reset: a run raises `done` in exactly the cycle that the report's formula gives for it, with its result, its final arrays and its file-scope contents, and no run that ends takes less than two cycles by this formula. The report is that of the expanded program with times, whose clocked runs answer what the runs in C answer, in these cycles.
pub record IsSynthesis (source : List ℕ) (settings : Settings) (module_bytes report_bytes : List ℕ) : Type 0 where
  pub accepted : IsAccepted source settings.top
  pub no_fault : (fault : Refusal) → ¬ IsFirstFault source settings.top fault
  pub texts : HasTexts settings module_bytes report_bytes
  pub named : texts.design.name ≡ codes "hls_" ++ settings.top
  pub agrees : Agrees texts.design (interface_of accepted.function) texts.report.init (first_contents accepted.program) (c_answers accepted.program accepted.index texts.report)
  pub scheduled : IsScheduledReport settings (expansion_of accepted) texts.report texts.design
  pub answers : AnswersAlways accepted.program accepted.index scheduled.timed texts.report.rows
  pub long : RunsAreLong accepted.program accepted.index texts.report
