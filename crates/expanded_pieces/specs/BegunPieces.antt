-- What lowering takes for granted of the points and branches of expanded programs.
pub mod Reads
pub mod Beginning
pub mod Points
pub mod Typed
use Rattle.std.specs.Prelude.{◌≡◌, Bool, [], Some}
use Rattle.hls_base.specs.declared.point.Point.{Point}
use Rattle.hls_base.specs.declared.point.PointKind.TheVariants as point
use Rattle.pieces.specs.Resolved.Core.{CoreFunctionTree, CoreProgramTree}
use Rattle.c_expand.specs.Expansion.{expansion, top_of}
use Rattle.pieces.specs.Trees.{PieceTrees}
use Rattle.c_meaning.specs.PieceRuns.Pieces.{Frame}
use Rattle.passes.specs.Lowering.Shapes.{first_point}
use Rattle.pass_runs.specs.LowerRuns.Suits.{Suits}
use Rattle.pass_runs.specs.LowerRuns.Holding.{IsThere, none_hidden}
use Rattle.pass_runs.specs.LowerRuns.Suiting.{BeginSuits}
use Rattle.expanded_pieces.specs.Jumps.{ProgramJumpsFit}
use Rattle.expanded_pieces.specs.BegunPieces.Beginning.{BeginsWell}
use Rattle.expanded_pieces.specs.BegunPieces.Points.{KeepsBegun, begins_at, MarksDiffer}
use Rattle.expanded_pieces.specs.BegunPieces.Typed.{AreMade}

-- the pieces are those of a program with a top function
abbrev pub HasTop : CoreProgramTree → Type 0
HasTop p = (fn : CoreFunctionTree) × (top_of p ≡ Some fn)

-- Blocks of an expanded program begin at marks, and the variable that a branch without a mark sets is not read in the other branch before it is set there too.
abbrev pub ExpandedPiecesBeginWell : Type 0
ExpandedPiecesBeginWell = (p : CoreProgramTree) → HasTop p → ProgramJumpsFit p → (kept : Point → Bool) → KeepsBegun kept (expansion p).pieces → BeginsWell kept [] none_hidden (expansion p).pieces

-- where all points at which blocks begin are kept, and no other
abbrev pub ExpandedPiecesBeginAtTheirPoints : Type 0
ExpandedPiecesBeginAtTheirPoints = (p : CoreProgramTree) → HasTop p → ProgramJumpsFit p → MarksDiffer (expansion p).pieces → BeginsWell (begins_at (expansion p).pieces) [] none_hidden (expansion p).pieces

-- The program begins at the point of its top function.
abbrev pub ExpandedPiecesHaveAPoint : Type 0
ExpandedPiecesHaveAPoint = (p : CoreProgramTree) (fn : CoreFunctionTree) → top_of p ≡ Some fn → first_point (expansion p).pieces ≡ Some (record { path = []; at = fn.at; kind = point.Begin })

-- Pieces that begin well, and whose expressions have the types of what they name, suit lowering.
abbrev pub TypedPiecesSuit : Type 0
TypedPiecesSuit = (f : Frame) (kept : Point → Bool) (pieces : PieceTrees) → AreMade (Suits f none_hidden) (IsThere f) pieces → BeginsWell kept [] none_hidden pieces → BeginSuits f kept [] none_hidden pieces
