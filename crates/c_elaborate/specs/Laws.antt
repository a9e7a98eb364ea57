-- What elaboration keeps.
use Rattle.std.specs.Prelude.{◌≡◌, ℕ, List, [], Some}
use Rattle.hls_base.specs.FileScope.{FileScope}
use Rattle.hls_base.specs.declared.place.Place.{Place}
use Rattle.c_tree.specs.Tree.{ProgramTree}
use Rattle.c_tree.specs.Terminals.{Terminal}
use Rattle.c_tree.specs.Grammar.{DerivesProgram}
use Rattle.c_meaning.specs.Checks.Programs.{top_name, program_faults}
use Rattle.c_meaning.specs.Run.{c_run}
use Rattle.c_meaning.specs.CoreRuns.Runs.{core_run}
use Rattle.c_elaborate.specs.Programs.{program_elaborated}
use Rattle.c_elaborate.specs.Grammatical.{ProgramDeclaresInBlocks}
use Rattle.c_elaborate.specs.Resolved.{IsProgramResolved}

-- The core program of a program whose names are resolved, for a top function with a body, has the program's answer, for all contents of file scope and all arguments, and for every number of points that may be passed.
abbrev pub ResolvedProgramsKeepRuns : Type 0
ResolvedProgramsKeepRuns = (p : ProgramTree) (top : ℕ) (name : List ℕ) → top_name p top ≡ Some name → IsProgramResolved p → (kept : FileScope) (scalars : List ℕ) (arrays : List (List ℕ)) (n : ℕ)
    → core_run (program_elaborated p top) kept scalars arrays n ≡ c_run p top kept scalars arrays n

-- So it is with a program without faults whose declarations stand in blocks, as the grammar has it.
abbrev pub ElaborationKeepsRuns : Type 0
ElaborationKeepsRuns = (p : ProgramTree) (top : ℕ) (name : List ℕ) → top_name p top ≡ Some name → program_faults p name ≡ [] → ProgramDeclaresInBlocks p → (kept : FileScope) (scalars : List ℕ) (arrays : List (List ℕ)) (n : ℕ)
    → core_run (program_elaborated p top) kept scalars arrays n ≡ c_run p top kept scalars arrays n

-- The declarations of a program that the grammar derives stand in blocks.
abbrev pub GrammarDeclaresInBlocks : Type 0
GrammarDeclaresInBlocks = (tokens : List Terminal) (end : Place) (p : ProgramTree) → DerivesProgram tokens end p → ProgramDeclaresInBlocks p
