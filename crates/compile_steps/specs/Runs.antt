-- That the pieces of a program without faults run as the program does.
use Rattle.std.specs.Prelude.{◌≡◌, ℕ, List, [], Some}
use Rattle.hls_base.specs.FileScope.{FileScope}
use Rattle.hls_base.specs.declared.place.Place.{Place}
use Rattle.c_tree.specs.Tree.{ProgramTree}
use Rattle.c_tree.specs.Terminals.{Terminal}
use Rattle.c_tree.specs.Grammar.{DerivesProgram}
use Rattle.c_meaning.specs.Checks.Programs.{top_name, program_faults}
use Rattle.c_meaning.specs.Run.{c_run}
use Rattle.pieces.specs.Program.{ExpandedTree}
use Rattle.c_meaning.specs.PieceRuns.Values.{Store}
use Rattle.c_meaning.specs.PieceRuns.Runs.{frame_of, pieces_answer}
use Rattle.expand_runs.specs.Reading.{IsTyped}
use Rattle.expand_runs.specs.Laws.{IsDefined}
use Rattle.expanded_programs.specs.ElaboratedPrograms.Written.{NumbersFit}
use Rattle.expanded_programs.specs.ElaboratedPrograms.Inputs.{ProgramInputsFit}

-- The grammar derives the program from tokens whose numbers are of their types, and it has no fault for its top function.
pub record IsWithoutFaults (p : ProgramTree) (top : ℕ) : Type 0 where
  pub tokens : List Terminal
  pub end : Place
  pub name : List ℕ
  pub numbers : NumbersFit tokens
  pub derives : DerivesProgram tokens end p
  pub named : top_name p top ≡ Some name
  pub faultless : program_faults p name ≡ []

-- The pieces have the answer of the run in C wherever that is defined, for all contents of file scope and all arguments that fit, whatever numbers of their types other variables and elements hold at first, and for every number of points.
abbrev pub RunsAsProgram : ProgramTree → ℕ → ExpandedTree → Type 0
RunsAsProgram p top e = (first : Store) (kept : FileScope) (scalars : List ℕ) (arrays : List (List ℕ)) (n : ℕ) → IsTyped (frame_of e) first → ProgramInputsFit p top kept scalars arrays
    → IsDefined (c_run p top kept scalars arrays n) → pieces_answer e first kept scalars arrays n ≡ c_run p top kept scalars arrays n
