-- The circuit of a program that a source is compiled to agrees with the box of its C function.
use Rattle.std.specs.Prelude.{◌≡◌, ℕ, List, Some, slice_get, true}
use Rattle.hls_base.specs.declared.point.Point.{Point}
use Rattle.hls_base.specs.declared.settings.Units.{Units}
use Rattle.c_tree.specs.Tree.{FunctionTree, ProgramTree}
use Rattle.c_meaning.specs.Run.{function_at, first_contents}
use Rattle.cosim_levels.specs.CAnswers.{c_answers}
use Rattle.cosim_levels.specs.Pins.FunctionPins.{interface_of}
use Rattle.pieces.specs.Program.{ExpandedTree}
use Rattle.c_meaning.specs.PieceRuns.Runs.{frame_of}
use Rattle.ir_core.specs.declared.cfg.Cfg.{Cfg}
use Rattle.ir_core.specs.declared.stamp.Untimed.{Untimed}
use Rattle.ir_lower.specs.Frames.{frame_view}
use Rattle.ir_core.specs.declared.timed.Timed.{Timed}
use Rattle.reg_binding.specs.declared.registers.Registers.{Registers}
use Rattle.rtl_core.specs.Netlist.{Netlist}
use Rattle.rtl_core.specs.Valid.{IsValid}
use Rattle.rtl_core.specs.Agreement.{Agrees}
use Rattle.cycle_report.specs.PlainReport.{PlainLoop, PlainReport}
use Rattle.report_rows.specs.Costs.{AreRowsOf}
use Rattle.report_rows.specs.Initial.{initial_cycles}
use Rattle.program_validity.specs.Programs.{is_valid}
use Rattle.compile_steps.specs.Flat.{Passes, IsFlatOf}
use Rattle.compile_steps.specs.Resets.{expanded_frame}
use Rattle.compile_steps.specs.Reports.{IsTimed}
use Rattle.timed_pieces.specs.FlatRuns.{Choice, IsLaidOut}
use Rattle.clock_ir.specs.WellTimed.{IsWellTimed}
use Rattle.compile_steps.specs.BegunPrograms.{HasEnds}
use Rattle.datapath.specs.Plans.{Savings, plan_of}
use Rattle.datapath.specs.Netlists.{IsCircuitOf}
use Rattle.circuit_agreement.specs.CircuitFlow.Compiled.{IsCompiled}
use Rattle.circuit_agreement.specs.Standing.{FitsFrame}
use Rattle.circuit_agreement.specs.Boxes.{HasMemories}
use Rattle.source_answers.specs.SourceRuns.{IsFaultless, expanded}

-- Where a program is laid out from an expanded program, and has times, its plan has a result where it returns a word, and constants within the widths of their tables.
abbrev pub PlansFitFrames : Type 0
PlansFitFrames = (e : ExpandedTree) (choice : Choice) (start : Point) (untimed : Cfg Untimed) (timed : Cfg Timed) (registers : Registers) (savings : Savings) → HasEnds e → frame_view timed.frame ≡ expanded_frame e
    → IsLaidOut (frame_of e) choice e.pieces start e.result untimed → IsWellTimed untimed timed → FitsFrame (plan_of timed registers savings)

-- Of a source without faults, with this top function: a valid netlist that is the circuit of the plan of its program with times agrees with the box of the function, with the answers of C in the cycles of the report, where the report is at base 1, its rows are the costs of the program, and its initial cycles are those of the frame.
abbrev pub SourceCircuitsKeepPromise : Type 0
SourceCircuitsKeepPromise = (source : List ℕ) (p : ProgramTree) (top : ℕ) (name : List ℕ) → IsFaultless source p top name → (function : FunctionTree) → function_at (slice_get p.items top) ≡ Some function
    → (passes : Passes) (untimed : Cfg Untimed) (flat_ : IsFlatOf (expanded p top) passes untimed) → is_valid flat_.unfused ≡ true
    → (units : Units) (timed : Cfg Timed) (loops : List PlainLoop) → IsTimed units untimed timed loops → frame_view timed.frame ≡ expanded_frame (expanded p top)
    → (report : PlainReport) → report.base ≡ 1 → AreRowsOf timed.nodes.items report.rows → report.init ≡ initial_cycles timed.frame
    → (registers : Registers) (savings : Savings) → IsCompiled (plan_of timed registers savings)
    → (d : Netlist) → IsCircuitOf (plan_of timed registers savings) d → HasMemories (plan_of timed registers savings) d → IsValid d
    → Agrees d (interface_of function) report.init (first_contents p) (c_answers p top report)
