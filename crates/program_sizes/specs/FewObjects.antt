-- How many objects the functions of a source have.
use Rattle.std.specs.Prelude.{ℕ, List}
use Rattle.hls_base.specs.declared.place.Place.{Place}
use Rattle.c_token.specs.declared.token.Token.{Token}
use Rattle.c_token.specs.Replacement.{Becomes}
use Rattle.c_tree.specs.Terminals.{terminals}
use Rattle.c_tree.specs.Tree.{ProgramTree}
use Rattle.c_tree.specs.Grammar.{DerivesProgram}
use Rattle.c_elaborate.specs.Programs.{program_elaborated}
use Rattle.passes.specs.Objects.{HasFewObjects}

-- A source becomes no more tokens than it may, and each object of a function was declared by a token of its own: so no function has more objects than there are tokens.
abbrev pub FewObjects : Type 0
FewObjects = (tokens replaced : List Token) (end : Place) (p : ProgramTree) (top : ℕ) → Becomes tokens replaced → DerivesProgram (terminals replaced) end p → HasFewObjects (program_elaborated p top)
