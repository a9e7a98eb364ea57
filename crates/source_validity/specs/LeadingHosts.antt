-- The order of the arrays of expanded programs.
use Rattle.pieces.specs.Resolved.Core.{CoreProgramTree}
use Rattle.c_expand.specs.Expansion.{expansion}
use Rattle.expanded_programs.specs.Calls.Programs.{IsProgramSound}
use Rattle.compiled_plans.specs.Frames.{HostsComeFirst}

abbrev pub ExpandedHostsComeFirst : Type 0
ExpandedHostsComeFirst = (p : CoreProgramTree) → IsProgramSound p → HostsComeFirst (expansion p).arrays
