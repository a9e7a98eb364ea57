-- Subscripts of the core programs that programs of C without faults become.
use Rattle.std.specs.Prelude.{◌≡◌, ℕ, List, [], Some}
use Rattle.hls_base.specs.declared.place.Place.{Place}
use Rattle.c_tree.specs.Tree.{ProgramTree}
use Rattle.c_tree.specs.Terminals.{Terminal}
use Rattle.c_tree.specs.Grammar.{DerivesProgram}
use Rattle.c_meaning.specs.Checks.Programs.{top_name, program_faults}
use Rattle.c_elaborate.specs.Programs.{program_elaborated}
use Rattle.c_expand.specs.Expansion.{expansion}
use Rattle.expanded_programs.specs.ElaboratedPrograms.Written.{NumbersFit}
use Rattle.sound_trees.specs.Subscripts.{PiecesSubscriptsFit}
use Rattle.typed_pieces.specs.FittingSubscripts.Programs.{ProgramSubscriptsFit}

-- In the core program of a program without faults each element has as many subscripts as its array has dimensions, and arrays that calls are given have as many dimensions as the parameters.
abbrev pub ElaboratedSubscriptsFit : Type 0
ElaboratedSubscriptsFit = (tokens : List Terminal) (end : Place) (p : ProgramTree) (top : ℕ) (name : List ℕ) → DerivesProgram tokens end p → program_faults p name ≡ [] → ProgramSubscriptsFit (program_elaborated p top)

-- So it is in the pieces that the program is expanded to, where its numbers are of their types.
abbrev pub CheckedSubscriptsFit : Type 0
CheckedSubscriptsFit = (tokens : List Terminal) (end : Place) (p : ProgramTree) (top : ℕ) (name : List ℕ) → NumbersFit tokens → DerivesProgram tokens end p → top_name p top ≡ Some name → program_faults p name ≡ []
    → PiecesSubscriptsFit (expansion (program_elaborated p top)).arrays (expansion (program_elaborated p top)).pieces
