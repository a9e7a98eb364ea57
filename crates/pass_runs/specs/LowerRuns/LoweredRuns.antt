-- What lowering keeps.
use Rattle.std.specs.Prelude.{◌≡◌, Bool, [], slice_get, Some}
use Rattle.hls_base.specs.declared.point.Point.{Point}
use Rattle.hls_base.specs.declared.number.VarId.{VarId}
use Rattle.c_token.specs.declared.ctype.CType.{CType}
use Rattle.pieces.specs.Program.{ExpandedTree}
use Rattle.pieces.specs.Trees.{PieceTrees}
use Rattle.c_meaning.specs.PieceRuns.Values.{Store}
use Rattle.c_meaning.specs.PieceRuns.Pieces as p
use Rattle.c_meaning.specs.PieceRuns.Pieces.{Frame, pieces_run}
use Rattle.c_meaning.specs.PieceRuns.Runs.{frame_of, result_word}
use Rattle.ir_core.specs.Bodies.{Words}
use Rattle.ir_core.specs.Trees.{SequenceTree, side}
use Rattle.ir_core.specs.TreeRuns as trees
use Rattle.ir_core.specs.TreeRuns.{sequence_run}
use Rattle.passes.specs.Lowering.Shapes.{first_point}
use Rattle.passes.specs.Lowering.Blocks.{begun}
use Rattle.passes.specs.Lowering.{last, lowered, lowering}
use Rattle.pass_runs.specs.LowerRuns.Suits.{shapes_of, scope_of}
use Rattle.pass_runs.specs.LowerRuns.LoweredTrees.Fitting.{PiecesFit}
use Rattle.pass_runs.specs.LowerRuns.Following.{IsKeptRun}
use Rattle.pass_runs.specs.LowerRuns.Holding.{Holds, none_hidden, ArraysAreShort}
use Rattle.pass_runs.specs.LowerRuns.Suiting.{shut, BeginSuits}

-- both are at the end of the program, and the words show the store
abbrev pub AreDone : Frame → p.Way → Store → trees.Way → Words → Type 0
AreDone f way s way' t = (way ≡ p.on) × (way' ≡ trees.on) × Holds f none_hidden s t

-- The tree that pieces are lowered to, from words that show the store, has their run without the points that have no blocks.
abbrev pub LoweredKeepsRuns : Type 0
LoweredKeepsRuns = (f : Frame) (kept : Point → Bool) (pieces : PieceTrees) (point : Point) → ArraysAreShort f → first_point pieces ≡ Some point → PiecesFit shut pieces → BeginSuits f kept [] none_hidden pieces
    → (s : Store) (t : Words) → Holds f none_hidden s t → IsKeptRun kept (AreDone f) (λ n. pieces_run f pieces s n) (λ n. sequence_run (shapes_of f) (lowered (scope_of f) pieces last (begun point)) t n)

-- ---- whole programs

-- The word of the result is that of its number.
abbrev pub IsShownResult : ExpandedTree → Store → Words → Type 0
IsShownResult e s t = (k : CType) (v : VarId) → e.ret ≡ Some k → e.result ≡ Some v → slice_get e.variables v.0 ≡ Some k → result_word e e.ret e.result s ≡ Some (t.variables v.0)

abbrev pub IsAnswered : ExpandedTree → p.Way → Store → trees.Way → Words → Type 0
IsAnswered e way s way' t = AreDone (frame_of e) way s way' t × IsShownResult e s t

-- A program is lowered to blocks that have its run, and that end with its result and its contents.
abbrev pub ProgramsKeepRuns : Type 0
ProgramsKeepRuns = (e : ExpandedTree) (kept : Point → Bool) (point : Point) → ArraysAreShort (frame_of e) → first_point e.pieces ≡ Some point → PiecesFit shut e.pieces → BeginSuits (frame_of e) kept [] none_hidden e.pieces
    → (blocks : SequenceTree) × (lowering e ≡ side blocks)
    × ((s : Store) (t : Words) → Holds (frame_of e) none_hidden s t → IsKeptRun kept (IsAnswered e) (λ n. pieces_run (frame_of e) e.pieces s n) (λ n. sequence_run (shapes_of (frame_of e)) blocks t n))
