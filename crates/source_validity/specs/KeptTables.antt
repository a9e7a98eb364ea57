-- Tables of expanded programs.
pub mod Programs
pub mod Worlds
pub mod Standing
pub mod ProperPieces
use Rattle.std.specs.Prelude.{◌≡◌, ℕ, List, [], Some}
use Rattle.hls_base.specs.declared.place.Place.{Place}
use Rattle.c_tree.specs.Tree.{ProgramTree}
use Rattle.c_tree.specs.Terminals.{Terminal}
use Rattle.c_tree.specs.Grammar.{DerivesProgram}
use Rattle.c_meaning.specs.Checks.Programs.{top_name, program_faults}
use Rattle.c_elaborate.specs.Programs.{program_elaborated}
use Rattle.expanded_programs.specs.ElaboratedPrograms.Written.{NumbersFit}
use Rattle.pieces.specs.Resolved.Core.{CoreProgramTree}
use Rattle.c_expand.specs.Expansion.{expansion}
use Rattle.expanded_programs.specs.Calls.Programs.{IsProgramSound}
use Rattle.compiled_plans.specs.Operations.{PutNoTables}
use Rattle.source_validity.specs.KeptTables.Programs.{ProgramKeepsConstants}

-- No piece of an expanded program sets an element of a table, where its core program sets no object that is const, and gives const arrays only for parameters that are const.
abbrev pub ExpandedTablesKept : Type 0
ExpandedTablesKept = (p : CoreProgramTree) → IsProgramSound p → ProgramKeepsConstants p → PutNoTables (expansion p).arrays (expansion p).pieces

-- The core program of a program without faults sets no object that is const, and gives const arrays only for parameters that are const.
abbrev pub ElaboratedConstantsKept : Type 0
ElaboratedConstantsKept = (tokens : List Terminal) (end : Place) (p : ProgramTree) (top : ℕ) (name : List ℕ) → DerivesProgram tokens end p → program_faults p name ≡ [] → ProgramKeepsConstants (program_elaborated p top)

-- So no piece that it is expanded to sets an element of a table, where its numbers are of their types.
abbrev pub CheckedTablesKept : Type 0
CheckedTablesKept = (tokens : List Terminal) (end : Place) (p : ProgramTree) (top : ℕ) (name : List ℕ) → NumbersFit tokens → DerivesProgram tokens end p → top_name p top ≡ Some name → program_faults p name ≡ []
    → PutNoTables (expansion (program_elaborated p top)).arrays (expansion (program_elaborated p top)).pieces
