-- What programs of C without faults become.
pub mod Written
pub mod Inputs
pub mod StoredNumbers
use Rattle.std.specs.Prelude.{◌≡◌, ℕ, List, [], Some}
use Rattle.hls_base.specs.FileScope.{FileScope}
use Rattle.hls_base.specs.declared.place.Place.{Place}
use Rattle.c_token.specs.declared.token.Token.{Token}
use Rattle.c_token.specs.SourceText.{Spells}
use Rattle.c_token.specs.Replacement.{Becomes}
use Rattle.c_tree.specs.Tree.{ProgramTree}
use Rattle.c_tree.specs.Terminals.{Terminal, terminals}
use Rattle.c_tree.specs.Grammar.{DerivesProgram}
use Rattle.c_meaning.specs.Checks.Programs.{top_name, program_faults}
use Rattle.c_meaning.specs.Run.{c_run}
use Rattle.c_meaning.specs.PieceRuns.Values.{Store}
use Rattle.c_meaning.specs.PieceRuns.Runs.{frame_of, pieces_answer}
use Rattle.c_elaborate.specs.Programs.{program_elaborated}
use Rattle.c_expand.specs.Expansion.{expansion}
use Rattle.expand_runs.specs.Reading.{IsTyped}
use Rattle.expand_runs.specs.Laws.{InputsFit, IsDefined}
use Rattle.expanded_programs.specs.Calls.Programs.{IsProgramSound}
use Rattle.expanded_programs.specs.ElaboratedPrograms.Written.{NumbersFit}
use Rattle.expanded_programs.specs.ElaboratedPrograms.Inputs.{ProgramInputsFit}

-- Each number among the tokens that a source becomes is one of its type.
abbrev pub SourceNumbersFit : Type 0
SourceNumbersFit = (source : List ℕ) (tokens replaced : List Token) → Spells source tokens → Becomes tokens replaced → NumbersFit (terminals replaced)

-- A program that the grammar derives from tokens whose numbers are of their types, and that has no fault for its top function, becomes a core program that is sound.
abbrev pub ElaboratedProgramsAreSound : Type 0
ElaboratedProgramsAreSound = (tokens : List Terminal) (end : Place) (p : ProgramTree) (top : ℕ) (name : List ℕ) → NumbersFit tokens → DerivesProgram tokens end p → top_name p top ≡ Some name → program_faults p name ≡ []
    → IsProgramSound (program_elaborated p top)

-- Contents of file scope and arguments that fit such a program fit its core program.
abbrev pub ElaboratedInputsFit : Type 0
ElaboratedInputsFit = (tokens : List Terminal) (end : Place) (p : ProgramTree) (top : ℕ) (name : List ℕ) → DerivesProgram tokens end p → top_name p top ≡ Some name → program_faults p name ≡ []
    → (kept : FileScope) (scalars : List ℕ) (arrays : List (List ℕ)) → ProgramInputsFit p top kept scalars arrays → InputsFit (program_elaborated p top) kept scalars arrays

-- The pieces that such a program is expanded to have its answer wherever that is defined, for all contents of file scope and all arguments that fit, whatever numbers of their types the other variables and elements hold at first, and for every number of points.
abbrev pub CheckedProgramsKeepRuns : Type 0
CheckedProgramsKeepRuns = (tokens : List Terminal) (end : Place) (p : ProgramTree) (top : ℕ) (name : List ℕ) → NumbersFit tokens → DerivesProgram tokens end p → top_name p top ≡ Some name → program_faults p name ≡ []
    → (first : Store) (kept : FileScope) (scalars : List ℕ) (arrays : List (List ℕ)) (n : ℕ) → IsTyped (frame_of (expansion (program_elaborated p top))) first → ProgramInputsFit p top kept scalars arrays → IsDefined (c_run p top kept scalars arrays n)
    → pieces_answer (expansion (program_elaborated p top)) first kept scalars arrays n ≡ c_run p top kept scalars arrays n
