-- What is known of the loops of expanded programs.
use Rattle.pieces.specs.Resolved.Core.{CoreProgramTree}
use Rattle.c_expand.specs.Expansion.{expansion}
use Rattle.timed_pieces.specs.FormulaCycles.Loops.{PiecesLoopsEnd}

-- Each loop of an expanded program ends at the End of the point at which its body begins.
abbrev pub ExpandedLoopsEnd : Type 0
ExpandedLoopsEnd = (p : CoreProgramTree) → PiecesLoopsEnd (expansion p).pieces
