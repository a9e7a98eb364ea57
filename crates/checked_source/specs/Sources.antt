-- Which program a source is.
use Rattle.std.specs.Prelude.{◌≡◌, ℕ, true, List, Some, is_some, slice_get}
use Rattle.hls_base.specs.declared.place.Place.{Place}
use Rattle.hls_base.specs.TextPlaces.{text_start, place_after}
use Rattle.c_token.specs.declared.token.Token.{Token}
use Rattle.c_token.specs.SourceText.{Spells}
use Rattle.c_token.specs.Replacement.{Becomes}
use Rattle.c_tree.specs.Terminals.{terminals}
use Rattle.c_tree.specs.Tree as tree
use Rattle.c_tree.specs.Tree.{FunctionTree, ProgramTree}
use Rattle.c_tree.specs.Refusal.{IsProgram}

-- the place just after the last byte
abbrev pub end_of : List ℕ → Place
end_of source = place_after text_start source

-- what the tokens of the source become, by directives and the replacement of words
pub record IsReplaced (source : List ℕ) (replaced : List Token) : Type 0 where
  pub tokens : List Token
  pub spelled : Spells source tokens
  pub becomes : Becomes tokens replaced

-- the source is this program, within the limits
pub record IsProgramOf (source : List ℕ) (program : ProgramTree) : Type 0 where
  pub tokens : List Token
  pub replaced : IsReplaced source tokens
  pub is : IsProgram (terminals tokens) (end_of source) program

-- the source is this program, and no other
pub record IsTheProgramOf (source : List ℕ) (program : ProgramTree) : Type 0 where
  pub is : IsProgramOf source program
  pub only : (other : ProgramTree) → IsProgramOf source other → other ≡ program

-- the item of this number is the function with a body that has the name of the top function
pub record IsTopFunction (program : ProgramTree) (top : List ℕ) (index : ℕ) (function : FunctionTree) : Type 0 where
  pub item : slice_get program.items index ≡ Some (tree.function function)
  pub has_body : is_some function.body ≡ true
  pub named : function.name ≡ top
