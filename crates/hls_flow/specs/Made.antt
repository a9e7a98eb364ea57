-- What is made of an expanded program.
use Rattle.std.specs.Prelude.{ℕ, List}
use Rattle.hls_base.specs.declared.settings.Settings.{Settings}
use Rattle.pieces.specs.Program.{ExpandedTree}
use Rattle.rtl_core.specs.Netlist.{Netlist}
use Rattle.cycle_report.specs.PlainReport.{PlainReport}
use Rattle.promises.specs.Circuits.{HasCircuit}
use Rattle.hls_flow.specs.Synthesis.{HasTexts, IsScheduledReport}

-- the report is that of an expanded program with times, and the circuit is built for it
pub record HasScheduledCircuit (settings : Settings) (expanded : ExpandedTree) (report : PlainReport) (design : Netlist) : Type 0 where
  pub scheduled : IsScheduledReport settings expanded report design
  pub circuit : HasCircuit scheduled.timed design

-- texts of such a circuit and of such a report
pub record HasScheduledTexts (settings : Settings) (expanded : ExpandedTree) (module_bytes report_bytes : List ℕ) : Type 0 where
  pub texts : HasTexts settings module_bytes report_bytes
  pub made : HasScheduledCircuit settings expanded texts.report texts.design
