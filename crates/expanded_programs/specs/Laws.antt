-- What the expansion of a program keeps.
use Rattle.pieces.specs.Resolved.Core.{CoreProgramTree}
use Rattle.expand_runs.specs.Laws.{KeepsRuns}
use Rattle.expanded_programs.specs.Calls.Programs.{IsProgramSound}

-- The expansion of a core program as elaboration makes it keeps the program's runs.
abbrev pub ExpansionKeepsRuns : Type 0
ExpansionKeepsRuns = (p : CoreProgramTree) → IsProgramSound p → KeepsRuns p
