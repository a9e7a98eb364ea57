-- Types of C among the tokens of a source.
use Rattle.std.specs.Prelude.{◌≡◌, ℕ, List, [], Some}
use Rattle.hls_base.specs.declared.point.Point.{Point}
use Rattle.hls_base.specs.declared.place.Place.{Place}
use Rattle.c_token.specs.declared.token.Token.{Token}
use Rattle.c_token.specs.SourceText.{Spells}
use Rattle.c_token.specs.Replacement.{Becomes}
use Rattle.c_tree.specs.Terminals.{terminals}
use Rattle.c_tree.specs.Tree.{ProgramTree}
use Rattle.c_tree.specs.Grammar.{DerivesProgram}
use Rattle.c_meaning.specs.Checks.Programs.{top_name, program_faults}
use Rattle.c_elaborate.specs.Programs.{program_elaborated}
use Rattle.c_expand.specs.Expansion.{expansion}
use Rattle.c_meaning.specs.PieceRuns.Runs.{frame_of}
use Rattle.typed_pieces.specs.Typed.{PiecesTyped}
use Rattle.typed_pieces.specs.Worlds.{ArraysHaveLengths}
use Rattle.typed_pieces.specs.Sources.{TokensHaveTypes}
use Rattle.expanded_pieces.specs.BegunPieces.Points.{begins_at}
use Rattle.timed_pieces.specs.FlatRuns.{IsFine}

-- Each constant and each type name among the tokens that a source becomes has a type of C.
abbrev pub SourceTokensHaveTypes : Type 0
SourceTokensHaveTypes = (source : List ℕ) (tokens replaced : List Token) → Spells source tokens → Becomes tokens replaced → TokensHaveTypes (terminals replaced)

-- The pieces of the program that a source is are as all passes on blocks ask, where it has no fault.
abbrev pub SourcesHaveFinePieces : Type 0
SourcesHaveFinePieces = (source : List ℕ) (tokens replaced : List Token) (end : Place) (p : ProgramTree) (top : ℕ) (name : List ℕ) → Spells source tokens → Becomes tokens replaced
    → DerivesProgram (terminals replaced) end p → top_name p top ≡ Some name → program_faults p name ≡ []
    → (start : Point) × IsFine (frame_of (expansion (program_elaborated p top))) (begins_at (expansion (program_elaborated p top)).pieces) (expansion (program_elaborated p top)).pieces start

-- Their expressions have the types of what they name, and their labels are words of the types of their switches.
abbrev pub SourcesHaveTypedPieces : Type 0
SourcesHaveTypedPieces = (source : List ℕ) (tokens replaced : List Token) (end : Place) (p : ProgramTree) (top : ℕ) (name : List ℕ) → Spells source tokens → Becomes tokens replaced
    → DerivesProgram (terminals replaced) end p → top_name p top ≡ Some name → program_faults p name ≡ [] → PiecesTyped (frame_of (expansion (program_elaborated p top))) (expansion (program_elaborated p top)).pieces

-- Each array of their programs has a length at least.
abbrev pub SourcesArraysHaveLengths : Type 0
SourcesArraysHaveLengths = (source : List ℕ) (tokens replaced : List Token) (end : Place) (p : ProgramTree) (top : ℕ) (name : List ℕ) → Spells source tokens → Becomes tokens replaced
    → DerivesProgram (terminals replaced) end p → top_name p top ≡ Some name → program_faults p name ≡ [] → ArraysHaveLengths (expansion (program_elaborated p top)).arrays
