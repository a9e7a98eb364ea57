-- Designs of sources agree with the boxes of their functions.
pub mod PlanWords
pub mod PlanAnswers
pub mod SourceCircuits
use Rattle.std.specs.Prelude.{◌≡◌, ℕ, List, Some, slice_get}
use Rattle.hls_base.specs.FileScope.{FileScope}
use Rattle.hls_base.specs.declared.point.Point.{Point}
use Rattle.hls_base.specs.declared.settings.Units.{Units}
use Rattle.c_tree.specs.Tree.{FunctionTree, ProgramTree}
use Rattle.c_meaning.specs.Run.{function_at, first_contents}
use Rattle.cosim_levels.specs.CAnswers.{c_answers}
use Rattle.cosim_levels.specs.Pins.FunctionPins.{interface_of}
use Rattle.c_meaning.specs.PieceRuns.Runs.{frame_of}
use Rattle.expanded_programs.specs.ElaboratedPrograms.Inputs.{ProgramInputsFit}
use Rattle.ir_core.specs.declared.cfg.Cfg.{Cfg}
use Rattle.ir_core.specs.declared.stamp.Untimed.{Untimed}
use Rattle.passes.specs.Lowering.Shapes.{first_point}
use Rattle.ir_lower.specs.Frames.{frame_view}
use Rattle.ir_core.specs.declared.timed.Timed.{Timed}
use Rattle.reg_binding.specs.declared.registers.Registers.{Registers}
use Rattle.rtl_core.specs.Netlist.{Netlist}
use Rattle.rtl_core.specs.Agreement.{Agrees}
use Rattle.cycle_report.specs.PlainReport.{PlainLoop, PlainReport}
use Rattle.report_rows.specs.Costs.{AreRowsOf}
use Rattle.report_rows.specs.Initial.{initial_cycles}
use Rattle.compile_steps.specs.Resets.{expanded_frame}
use Rattle.timed_pieces.specs.FlatRuns.{Choice, IsLaidOut}
use Rattle.timed_pieces.specs.Laws.{HasTimes}
use Rattle.datapath.specs.Plans.{Savings, plan_of}
use Rattle.circuit_agreement.specs.Answers.{AgreesWithRun}
use Rattle.source_answers.specs.SourceRuns.{IsFaultless, expanded}
use Rattle.source_answers.specs.Laws.{IsCounted}

-- Of a source without faults, with this top function, whose pieces begin at this point: a netlist that agrees with the clocked run of the plan of a program that is laid out and scheduled from its pieces agrees with the box of the function, to the cycle that the report's formula gives, where the report is at base 1, its rows are the costs of the program, its initial cycles are those of the frame, and its points are passed.
abbrev pub SourceDesignsAgree : Type 0
SourceDesignsAgree = (source : List ℕ) (p : ProgramTree) (top : ℕ) (name : List ℕ) → IsFaultless source p top name → (function : FunctionTree) → function_at (slice_get p.items top) ≡ Some function
    → (start : Point) → first_point (expanded p top).pieces ≡ Some start → (choice : Choice) (cfg : Cfg Untimed) → IsLaidOut (frame_of (expanded p top)) choice (expanded p top).pieces start (expanded p top).result cfg → frame_view cfg.frame ≡ expanded_frame (expanded p top)
    → (units : Units) (timed : Cfg Timed) (loops : List PlainLoop) → HasTimes units cfg timed loops
    → (report : PlainReport) → report.base ≡ 1 → AreRowsOf timed.nodes.items report.rows → report.init ≡ initial_cycles timed.frame
    → ((kept : FileScope) (scalars : List ℕ) (arrays : List (List ℕ)) → ProgramInputsFit p top kept scalars arrays → IsCounted p top choice start cfg kept scalars arrays)
    → (registers : Registers) (savings : Savings) (d : Netlist) → AgreesWithRun (plan_of timed registers savings) d → Agrees d (interface_of function) report.init (first_contents p) (c_answers p top report)
