-- What is known of the straight pieces of expanded programs.
use Rattle.hls_base.specs.declared.point.Point.{Point}
use Rattle.pieces.specs.Resolved.Core.{CoreProgramTree}
use Rattle.pieces.specs.Program.{ExpandedTree}
use Rattle.c_expand.specs.Expansion.{expansion}
use Rattle.ir_core.specs.Trees.{SequenceTree}
use Rattle.passes.specs.Lowering.Blocks.{begun}
use Rattle.passes.specs.Lowering.{last, lowered, scope_of}
use Rattle.passes.specs.Numbering as n
use Rattle.passes.specs.Numbering.{numbered_sequence}
use Rattle.passes.specs.Conversion as c
use Rattle.passes.specs.Conversion.{converted_sequence}
use Rattle.lowered_shapes.specs.ConvertedShapes.Converting.{AllConvert, HasNoFork}
use Rattle.lowered_shapes.specs.ConvertedShapes.Straight.{NoStraightCallEnds}

-- No call ends in a straight fork, or in a loop that may be overlapped.
abbrev pub CallsEndApart : Type 0
CallsEndApart = (p : CoreProgramTree) → NoStraightCallEnds (expansion p).pieces

-- the numbered blocks of a program, which begins at this point
abbrev pub numbered_blocks : n.Scope → ExpandedTree → Point → SequenceTree
numbered_blocks numbering e point = numbered_sequence numbering (lowered (scope_of e) e.pieces last (begun point))

-- Each convertible fork is merged, no convertible fork is left, and each eligible loop becomes a loop node.
abbrev pub ExpandedShapesConvert : Type 0
ExpandedShapesConvert = (p : CoreProgramTree) (numbering : n.Scope) (conversion : c.Scope) (point : Point)
    → AllConvert conversion (numbered_blocks numbering (expansion p) point) × HasNoFork (converted_sequence conversion (numbered_blocks numbering (expansion p) point))
