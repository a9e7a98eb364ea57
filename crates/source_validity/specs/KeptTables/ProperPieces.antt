-- Pieces that are proper.
use Rattle.std.specs.Prelude.{◌≡◌, ℕ, List, [], Some}
use Rattle.hls_base.specs.declared.place.Place.{Place}
use Rattle.c_tree.specs.Tree.{ProgramTree}
use Rattle.c_tree.specs.Terminals.{Terminal}
use Rattle.c_tree.specs.Grammar.{DerivesProgram}
use Rattle.c_meaning.specs.Checks.Programs.{top_name, program_faults}
use Rattle.c_elaborate.specs.Programs.{program_elaborated}
use Rattle.c_expand.specs.Expansion.{expansion}
use Rattle.pieces.specs.Trees.{PieceTrees}
use Rattle.pieces.specs.Program.{ArrayTree}
use Rattle.valid_trees.specs.ValidLowering.Proper.{PiecesAreProper}
use Rattle.expanded_programs.specs.ElaboratedPrograms.Written.{NumbersFit}
use Rattle.sound_trees.specs.Subscripts.{PiecesSubscriptsFit}
use Rattle.compiled_plans.specs.Operations.{PutNoTables}
use Rattle.typed_pieces.specs.Operators.{PiecesOperate}

-- Pieces are proper if each element has as many subscripts as its array has dimensions, no element of a table is set, and operators and labels have types of C.
abbrev pub JoinedPiecesAreProper : Type 0
JoinedPiecesAreProper = (arrays : List ArrayTree) (pieces : PieceTrees) → PiecesSubscriptsFit arrays pieces → PutNoTables arrays pieces → PiecesOperate pieces → PiecesAreProper arrays pieces

-- The pieces that a program without faults is expanded to are proper if operators and labels have types of C in them.
abbrev pub CheckedPiecesAreProper : Type 0
CheckedPiecesAreProper = (tokens : List Terminal) (end : Place) (p : ProgramTree) (top : ℕ) (name : List ℕ) → NumbersFit tokens → DerivesProgram tokens end p → top_name p top ≡ Some name → program_faults p name ≡ []
    → PiecesOperate (expansion (program_elaborated p top)).pieces → PiecesAreProper (expansion (program_elaborated p top)).arrays (expansion (program_elaborated p top)).pieces
