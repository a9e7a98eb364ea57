-- What is known of the points of expanded programs.
pub mod Apart
pub mod Points
pub mod Places
use Rattle.std.specs.Prelude.{ℕ, List}
use Rattle.hls_base.specs.declared.place.Place.{Place}
use Rattle.c_token.specs.declared.token.Token.{Token}
use Rattle.c_token.specs.SourceText.{Spells}
use Rattle.c_token.specs.Replacement.{Becomes}
use Rattle.c_tree.specs.Terminals.{Terminal, terminals}
use Rattle.c_tree.specs.Tree.{ProgramTree}
use Rattle.c_tree.specs.Grammar.{DerivesProgram}
use Rattle.c_elaborate.specs.Programs.{program_elaborated}
use Rattle.pieces.specs.Resolved.Core.{CoreProgramTree}
use Rattle.c_expand.specs.Expansion.{expansion}
use Rattle.expanded_pieces.specs.ApartPoints.Apart.{AreApart}
use Rattle.expanded_pieces.specs.ApartPoints.Points.{all_points}
use Rattle.expanded_pieces.specs.ApartPoints.Places.{PlacesDiffer, places_of}

-- No point stands twice among the marks and ends of an expanded program.
abbrev pub ExpandedPointsDiffer : Type 0
ExpandedPointsDiffer = (p : CoreProgramTree) → PlacesDiffer p → AreApart (all_points (expansion p).pieces)

-- ---- programs of C

-- The places of each function of a program that the grammar derives differ, where those of its tokens do.
abbrev pub GrammarPlacesDiffer : Type 0
GrammarPlacesDiffer = (tokens : List Terminal) (end : Place) (p : ProgramTree) (top : ℕ) → DerivesProgram tokens end p → AreApart (places_of tokens) → PlacesDiffer (program_elaborated p top)

-- The tokens that those of a source become have different places.
abbrev pub SourcePlacesDiffer : Type 0
SourcePlacesDiffer = (source : List ℕ) (tokens replaced : List Token) → Spells source tokens → Becomes tokens replaced → AreApart (places_of (terminals replaced))

-- So no point stands twice in the expansion of a program that a source is.
abbrev pub SourcePointsDiffer : Type 0
SourcePointsDiffer = (source : List ℕ) (tokens replaced : List Token) (end : Place) (p : ProgramTree) (top : ℕ) → Spells source tokens → Becomes tokens replaced → DerivesProgram (terminals replaced) end p
    → AreApart (all_points (expansion (program_elaborated p top)).pieces)
