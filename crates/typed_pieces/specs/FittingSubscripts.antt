-- Subscripts of expanded programs.
pub mod Programs
pub mod Worlds
pub mod Standing
use Rattle.pieces.specs.Resolved.Core.{CoreProgramTree}
use Rattle.c_expand.specs.Expansion.{expansion}
use Rattle.expanded_programs.specs.Calls.Programs.{IsProgramSound}
use Rattle.sound_trees.specs.Subscripts.{PiecesSubscriptsFit}
use Rattle.typed_pieces.specs.FittingSubscripts.Programs.{ProgramSubscriptsFit}

-- Each element of an expanded program has as many subscripts as its array has dimensions, where each of its core program has, and where the arrays that calls are given have as many dimensions as the parameters.
abbrev pub ExpandedSubscriptsFit : Type 0
ExpandedSubscriptsFit = (p : CoreProgramTree) → IsProgramSound p → ProgramSubscriptsFit p → PiecesSubscriptsFit (expansion p).arrays (expansion p).pieces
