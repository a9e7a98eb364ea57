-- The answers to starts of a C function are those of the clocked run of its plan.
use Rattle.std.specs.Prelude.{◌≡◌, ◌⊎◌, ℕ, List, Some}
use Rattle.hls_base.specs.FileScope.{FileScope}
use Rattle.hls_base.specs.declared.point.Point.{Point}
use Rattle.hls_base.specs.declared.settings.Units.{Units}
use Rattle.c_tree.specs.Tree.{ProgramTree}
use Rattle.cosim_levels.specs.CAnswers.{c_answers}
use Rattle.c_meaning.specs.PieceRuns.Runs.{frame_of}
use Rattle.expanded_programs.specs.ElaboratedPrograms.Inputs.{ProgramInputsFit}
use Rattle.ir_core.specs.declared.cfg.Cfg.{Cfg}
use Rattle.ir_core.specs.declared.stamp.Untimed.{Untimed}
use Rattle.passes.specs.Lowering.Shapes.{first_point}
use Rattle.ir_lower.specs.Frames.{frame_view}
use Rattle.ir_core.specs.declared.timed.Timed.{Timed}
use Rattle.reg_binding.specs.declared.registers.Registers.{Registers}
use Rattle.rtl_core.specs.Box.{Answer, Undefined}
use Rattle.cycle_report.specs.PlainReport.{PlainLoop, PlainReport}
use Rattle.report_rows.specs.Costs.{AreRowsOf}
use Rattle.compile_steps.specs.Resets.{expanded_frame}
use Rattle.timed_pieces.specs.FlatRuns.{Choice, IsLaidOut}
use Rattle.timed_pieces.specs.Laws.{HasTimes}
use Rattle.datapath.specs.Plans.{Savings, plan_of}
use Rattle.circuit_agreement.specs.Answers.{machine_answers}
use Rattle.source_answers.specs.SourceRuns.{IsFaultless, expanded}
use Rattle.source_answers.specs.Laws.{IsCounted}

-- Of a source without faults, whose pieces begin at this point: each answer of the source is undefined, or it is the answer of the clocked run of the plan of each program that is laid out and scheduled from its pieces with the frame of its expansion, and whose costs are the rows of the report at base 1; for all contents of file scope and all arguments that fit, where the formula's points are passed.
abbrev pub SourcePlansAnswer : Type 0
SourcePlansAnswer = (source : List ℕ) (p : ProgramTree) (top : ℕ) (name : List ℕ) → IsFaultless source p top name
    → (start : Point) → first_point (expanded p top).pieces ≡ Some start → (choice : Choice) (cfg : Cfg Untimed) → IsLaidOut (frame_of (expanded p top)) choice (expanded p top).pieces start (expanded p top).result cfg → frame_view cfg.frame ≡ expanded_frame (expanded p top)
    → (units : Units) (timed : Cfg Timed) (loops : List PlainLoop) → HasTimes units cfg timed loops → (report : PlainReport) → report.base ≡ 1 → AreRowsOf timed.nodes.items report.rows
    → (registers : Registers) (savings : Savings) (kept : FileScope) (scalars : List ℕ) (arrays : List (List ℕ)) → ProgramInputsFit p top kept scalars arrays → IsCounted p top choice start cfg kept scalars arrays
    → (answer : Answer) → c_answers p top report kept scalars arrays answer → (answer ≡ Undefined) ⊎ machine_answers (plan_of timed registers savings) kept scalars arrays answer
