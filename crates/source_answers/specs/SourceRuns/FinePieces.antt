-- What all passes on blocks ask of pieces, of expanded programs.
use Rattle.std.specs.Prelude.{◌≡◌, ℕ, List, [], Some}
use Rattle.hls_base.specs.declared.point.Point.{Point}
use Rattle.hls_base.specs.declared.point.PointKind.TheVariants as point
use Rattle.hls_base.specs.declared.place.Place.{Place}
use Rattle.c_token.specs.declared.token.Token.{Token}
use Rattle.c_token.specs.SourceText.{Spells}
use Rattle.c_token.specs.Replacement.{Becomes}
use Rattle.c_tree.specs.Terminals.{terminals}
use Rattle.c_tree.specs.Tree.{ProgramTree}
use Rattle.c_tree.specs.Grammar.{DerivesProgram}
use Rattle.c_meaning.specs.Checks.Programs.{top_name, program_faults}
use Rattle.c_elaborate.specs.Programs.{program_elaborated}
use Rattle.pieces.specs.Resolved.Core.{CoreFunctionTree, CoreProgramTree}
use Rattle.c_expand.specs.Expansion.{expansion, top_of}
use Rattle.pieces.specs.Trees.{PieceTrees}
use Rattle.pieces.specs.Program.{ExpandedTree}
use Rattle.c_meaning.specs.PieceRuns.Runs.{frame_of}
use Rattle.pass_runs.specs.LowerRuns.Suits.{Suits, scope_of}
use Rattle.pass_runs.specs.LowerRuns.Holding.{IsThere, none_hidden}
use Rattle.pass_runs.specs.ConvertRuns.LoweredConversions.Suiting as typing
use Rattle.expanded_programs.specs.Calls.Programs.{IsProgramSound}
use Rattle.typed_pieces.specs.Types.{ProgramHasTypes}
use Rattle.typed_pieces.specs.Sources.{TokensHaveTypes}
use Rattle.expanded_programs.specs.ElaboratedPrograms.Written.{NumbersFit}
use Rattle.expanded_pieces.specs.Jumps.{ProgramJumpsFit}
use Rattle.expanded_pieces.specs.Lengths.{ProgramLengthsFit}
use Rattle.expanded_pieces.specs.ApartPoints.Apart.{AreApart}
use Rattle.expanded_pieces.specs.ApartPoints.Points.{all_points}
use Rattle.expanded_pieces.specs.ApartPoints.Places.{PlacesDiffer}
use Rattle.expanded_pieces.specs.BegunPieces.Beginning.{BeginsWell}
use Rattle.expanded_pieces.specs.BegunPieces.Points.{begins_at, MarksDiffer}
use Rattle.expanded_pieces.specs.BegunPieces.Typed.{AreMade}
use Rattle.expanded_pieces.specs.BegunPieces.{HasTop}
use Rattle.timed_pieces.specs.FlatRuns.{IsFine}

-- No block begins at the point of another mark, where no point stands twice.
abbrev pub ApartMarksDiffer : Type 0
ApartMarksDiffer = (pieces : PieceTrees) → AreApart (all_points pieces) → MarksDiffer pieces

-- The points at which blocks begin are kept, and no other mark has one of them.
abbrev pub ExpandedPiecesKeepBegun : Type 0
ExpandedPiecesKeepBegun = (p : CoreProgramTree) → HasTop p → ProgramJumpsFit p → PlacesDiffer p → BeginsWell (begins_at (expansion p).pieces) [] none_hidden (expansion p).pieces

-- the expressions of an expanded program have the types of what they name
pub record AreTyped (e : ExpandedTree) : Type 0 where
  pub expressions : AreMade (Suits (frame_of e) none_hidden) (IsThere (frame_of e)) e.pieces
  pub pieces : typing.PiecesSuit (scope_of (frame_of e)) e.pieces

-- Pieces of an expanded program are as all passes ask, where their expressions have the types of what they name.
abbrev pub ExpandedPiecesAreFine : Type 0
ExpandedPiecesAreFine = (p : CoreProgramTree) (fn : CoreFunctionTree) → top_of p ≡ Some fn → ProgramJumpsFit p → ProgramLengthsFit p → PlacesDiffer p → AreTyped (expansion p)
    → IsFine (frame_of (expansion p)) (begins_at (expansion p).pieces) (expansion p).pieces (record { path = []; at = fn.at; kind = point.Begin })

-- ---- programs that are sound

-- The expressions of an expanded program have the types of what they name, where names stand for objects as elaboration makes them.
abbrev pub SoundPiecesAreTyped : Type 0
SoundPiecesAreTyped = (p : CoreProgramTree) → IsProgramSound p → ProgramHasTypes p → AreTyped (expansion p)

-- so the pieces are as all passes ask
abbrev pub SoundPiecesAreFine : Type 0
SoundPiecesAreFine = (p : CoreProgramTree) (sound : IsProgramSound p) → ProgramHasTypes p → ProgramJumpsFit p → ProgramLengthsFit p → PlacesDiffer p
    → IsFine (frame_of (expansion p)) (begins_at (expansion p).pieces) (expansion p).pieces (record { path = []; at = sound.top.0.at; kind = point.Begin })

-- ---- programs of C

-- The pieces of the program that a source is, where it has no fault and the numbers and types among its tokens are those of C.
abbrev pub SourcePiecesAreFine : Type 0
SourcePiecesAreFine = (source : List ℕ) (tokens replaced : List Token) (end : Place) (p : ProgramTree) (top : ℕ) (name : List ℕ) → Spells source tokens → Becomes tokens replaced → NumbersFit (terminals replaced) → TokensHaveTypes (terminals replaced)
    → DerivesProgram (terminals replaced) end p → top_name p top ≡ Some name → program_faults p name ≡ []
    → (start : Point) × IsFine (frame_of (expansion (program_elaborated p top))) (begins_at (expansion (program_elaborated p top)).pieces) (expansion (program_elaborated p top)).pieces start
