-- The formula of a report gives the cycles of a run.
pub mod Ends
pub mod Loops
use Rattle.std.specs.Prelude.{◌≡◌, ◌+◌, ◌<◌, ◌⊎◌, ℕ, Bool, true, List, Option, Some, slice_get}
use Rattle.hls_base.specs.declared.number.VarId.{VarId}
use Rattle.hls_base.specs.declared.point.Point.{Point}
use Rattle.hls_base.specs.declared.settings.Units.{Units}
use Rattle.hls_base.specs.Tallies.{count_in}
use Rattle.c_meaning.specs.Points.{times}
use Rattle.ir_core.specs.declared.cfg.Cfg.{Cfg}
use Rattle.ir_core.specs.declared.cfg.Node.{Node}
use Rattle.ir_core.specs.declared.stamp.Untimed.{Untimed}
use Rattle.ir_layout.specs.Nodes.{node_point}
use Rattle.ir_core.specs.declared.timed.Timed.{Timed}
use Rattle.cycle_report.specs.declared.report.Cost.{Cost}
use Rattle.cycle_report.specs.FormulaValue.{cycles}
use Rattle.cycle_report.specs.PlainReport.{PlainLoop}
use Rattle.report_rows.specs.Costs.{costs_of, weighed, AreRowsOf}
use Rattle.pieces.specs.Trees.{PieceTrees}
use Rattle.hls_base.specs.Steps.{ran, went}
use Rattle.c_meaning.specs.PieceRuns.Values.{Store}
use Rattle.c_meaning.specs.PieceRuns.Pieces as p
use Rattle.c_meaning.specs.PieceRuns.Pieces.{Frame, pieces_run}
use Rattle.ir_core.specs.Bodies.{Words}
use Rattle.ir_core.specs.FlatRuns.{flat_run}
use Rattle.pass_runs.specs.ConvertRuns.Typed.{Fits}
use Rattle.pass_runs.specs.ConvertRuns.LoweredConversions.Suiting as typing
use Rattle.pass_runs.specs.LowerRuns.Suits.{scope_of}
use Rattle.pass_runs.specs.LowerRuns.Holding.{Holds, none_hidden}
use Rattle.timed_pieces.specs.FlatRuns.{Choice, IsFine, IsLaidOut, has_node, AreDone}
use Rattle.clock_ir.specs.ClockRuns.{ended, timed_program, clock_run}
use Rattle.clock_ir.specs.WellTimed.{IsWellTimed}
use Rattle.clock_runs.specs.Premises.{IsSoundProgram}
use Rattle.clock_runs.specs.Laws.{IsEnded, run_cycles}
use Rattle.timed_pieces.specs.Laws.{HasTimes}
use Rattle.timed_pieces.specs.FormulaCycles.Ends.{LoopsLeadToTheirEnds}
use Rattle.timed_pieces.specs.FormulaCycles.Loops.{PiecesLoopsEnd}

-- ---- flat runs

-- The nodes that a run passes take as many cycles as their costs come to, where each point weighs what it counts in the run.
abbrev pub CostsCountRuns : Type 0
CostsCountRuns = (cfg : Cfg Untimed) (timed : Cfg Timed) → IsWellTimed cfg timed → LoopsLeadToTheirEnds cfg
    → (t : Words) (n : ℕ) (word : Option ℕ) (words : Words) (left : ℕ) → (flat_run cfg t n).outcome ≡ went word words left
    → run_cycles cfg timed t n ≡ weighed (times (flat_run cfg t n).trace) (costs_of timed.nodes.items)

abbrev pub IsTallyOf : List (Point × ℕ) → List Point → Type 0
IsTallyOf tally trace = (p : Point) → count_in tally p ≡ times trace p

-- So the formula gives the cycles of the run, at base 1.
abbrev pub FormulaCountsRuns : Type 0
FormulaCountsRuns = (cfg : Cfg Untimed) (timed : Cfg Timed) (rows : List Cost) → IsWellTimed cfg timed → LoopsLeadToTheirEnds cfg → AreRowsOf timed.nodes.items rows
    → (t : Words) (n : ℕ) (word : Option ℕ) (words : Words) (left : ℕ) → (flat_run cfg t n).outcome ≡ went word words left
    → (tally : List (Point × ℕ)) → IsTallyOf tally (flat_run cfg t n).trace → 1 + run_cycles cfg timed t n ≡ cycles 1 rows tally

-- ---- laid out programs

-- no point has two nodes
abbrev pub PointsDiffer : List (Node Untimed) → Type 0
PointsDiffer nodes = (i j : ℕ) (a b : Node Untimed) → slice_get nodes i ≡ Some a → slice_get nodes j ≡ Some b → node_point a ≡ node_point b → i ≡ j

-- In a program that is laid out from pieces, loops lead to their ends, where no point has two nodes, and each loop of the pieces ends at the End of the point at which its body begins.
abbrev pub LaidOutLoopsLeadToTheirEnds : Type 0
LaidOutLoopsLeadToTheirEnds = (f : Frame) (choice : Choice) (pieces : PieceTrees) (point : Point) (returned : Option VarId) (cfg : Cfg Untimed) → IsLaidOut f choice pieces point returned cfg
    → PointsDiffer cfg.nodes.items → PiecesLoopsEnd pieces → LoopsLeadToTheirEnds cfg

-- ---- runs of pieces

-- each node begins at a point that is kept, or that the trace does not pass
abbrev pub AreKept : (Point → Bool) → List Point → List (Node Untimed) → Type 0
AreKept kept trace nodes = (i : ℕ) (a : Node Untimed) → slice_get nodes i ≡ Some a → (kept (node_point a) ≡ true) ⊎ (times trace (node_point a) ≡ 0)

-- so it is for each trace of the pieces' run
abbrev pub PassesKept : Frame → PieceTrees → Store → (Point → Bool) → List (Node Untimed) → Type 0
PassesKept f pieces s kept nodes = (n : ℕ) → AreKept kept (pieces_run f pieces s n).trace nodes

-- Where the pieces' run ends, the clocked run ends with the word of the result and words that show the store, after exactly the cycles that the formula gives for each tally of that run.
abbrev pub FormulaGivesCycles : Frame → PieceTrees → Option VarId → Cfg Timed → List Cost → Store → Words → Type 0
FormulaGivesCycles f pieces returned timed rows s t =
    (n left : ℕ) (trace : List Point) (way : p.Way) (last : Store) → pieces_run f pieces s n ≡ ran trace (went way last left)
    → (tally : List (Point × ℕ)) → IsTallyOf tally trace
    → (word : Option ℕ) × (words : Words) × AreDone f returned way last word words
    × (clock_run (timed_program timed) t (cycles 1 rows tally) ≡ ended word words)
    × ((m : ℕ) → m < cycles 1 rows tally → IsEnded (clock_run (timed_program timed) t m) → ⊥)

abbrev pub FormulaCountsPieces : Type 0
FormulaCountsPieces = (f : Frame) (choice : Choice) (kept : Point → Bool) (pieces : PieceTrees) (point : Point) (returned : Option VarId) (cfg : Cfg Untimed)
    → IsFine f kept pieces point → IsLaidOut f choice pieces point returned cfg
    → (units : Units) (timed : Cfg Timed) (loops : List PlainLoop) → HasTimes units cfg timed loops → IsSoundProgram cfg
    → LoopsLeadToTheirEnds cfg → (rows : List Cost) → AreRowsOf timed.nodes.items rows
    → (s : Store) (t : Words) → Holds f none_hidden s t → Fits (typing.widths_of (scope_of f)) (typing.words_of (scope_of f)) t
    → PassesKept f pieces s (has_node f choice kept pieces point) cfg.nodes.items → FormulaGivesCycles f pieces returned timed rows s t
