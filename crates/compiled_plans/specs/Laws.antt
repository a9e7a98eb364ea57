-- Plans of compiled programs are compiled.
use Rattle.std.specs.Prelude.{◌≡◌, ◌^◌, ◌<◌, Bool, List, length}
use Rattle.hls_base.specs.declared.point.Point.{Point}
use Rattle.hls_base.specs.declared.settings.Units.{Units}
use Rattle.pieces.specs.Program.{ExpandedTree}
use Rattle.c_meaning.specs.PieceRuns.Runs.{frame_of}
use Rattle.ir_core.specs.declared.cfg.Cfg.{Cfg}
use Rattle.ir_core.specs.declared.stamp.Untimed.{Untimed}
use Rattle.ir_core.specs.declared.timed.Timed.{Timed}
use Rattle.report_rows.specs.Initial.{AreAddressed}
use Rattle.cycle_report.specs.PlainReport.{PlainLoop}
use Rattle.timed_pieces.specs.FlatRuns.{Choice, IsFine, IsLaidOut}
use Rattle.timed_pieces.specs.Laws.{HasTimes}
use Rattle.sound_trees.specs.Subscripts.{PiecesSubscriptsFit}
use Rattle.timed_pieces.specs.StartedWords.Contents.{ResultIsThere, KeptAreThere}
use Rattle.timed_pieces.specs.StartedWords.FirstWords.{HasFirstContents}
use Rattle.reg_binding.specs.declared.live.Live.{Live}
use Rattle.reg_binding.specs.Liveness.{IsLiveness, flow_of}
use Rattle.reg_binding.specs.declared.registers.Registers.{Registers}
use Rattle.reg_binding.specs.Assigned.{IsAssignment}
use Rattle.datapath.specs.Plans.{Plan, plan_of}
use Rattle.datapath.specs.Savings.{AreSafe}
use Rattle.circuit_agreement.specs.CircuitFlow.Compiled.{HasSoundFrame, IsCompiled}
use Rattle.datapath.specs.LeftOut.{savings_of}
use Rattle.compiled_plans.specs.Frames.{HasFrame, HostsComeFirst}
use Rattle.ir_core.specs.Small.{HasSmallNumbers}
use Rattle.compiled_plans.specs.Names.{NamesVariables}
use Rattle.compiled_plans.specs.Operations.{PutNoTables}

-- The frame of a plan that has that of an expanded program.
abbrev pub FramesAreSound : Type 0
FramesAreSound = (e : ExpandedTree) (p : Plan) → HasFrame e p → HasFirstContents e → HostsComeFirst e.arrays → length e.arrays < 2 ^ 64 → HasSoundFrame p

-- What is left out because of the variables that are live is not needed, where all variables that are named are there.
abbrev pub SavingsAreSafe : Type 0
SavingsAreSafe = (e : ExpandedTree) (timed : Cfg Timed) (registers : Registers) (live : Live) → IsLiveness (flow_of timed) live → HasFrame e (plan_of timed registers (savings_of timed live)) → KeptAreThere e
    → length timed.frame.variables.items ≡ length e.variables → NamesVariables (plan_of timed registers (savings_of timed live)) → AreSafe (plan_of timed registers (savings_of timed live))

-- The plan of a program that is laid out and scheduled from fine pieces, with registers for its results. The expanded program has its contents at first, and its pieces set no element of a table.
abbrev pub PlansAreCompiled : Type 0
PlansAreCompiled = (e : ExpandedTree) (choice : Choice) (kept : Point → Bool) (point : Point) (cfg : Cfg Untimed)
    → IsFine (frame_of e) kept e.pieces point → PiecesSubscriptsFit e.arrays e.pieces → IsLaidOut (frame_of e) choice e.pieces point e.result cfg
    → (units : Units) (timed : Cfg Timed) (rows : List PlainLoop) → HasTimes units cfg timed rows → HasSmallNumbers timed → AreAddressed timed.frame.memories.items
    → (live : Live) (registers : Registers) → IsAssignment timed live registers
    → let p : Plan = plan_of timed registers (savings_of timed live) in
    HasFrame e p → HasFirstContents e → HostsComeFirst e.arrays → KeptAreThere e → ResultIsThere e.variables e.ret e.result → PutNoTables e.arrays e.pieces → IsCompiled p
