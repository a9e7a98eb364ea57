-- What numbering keeps of valid trees.
use Rattle.ir_core.specs.Trees.{SequenceTree}
use Rattle.passes.specs.Numbering.{Scope, numbered_sequence}
use Rattle.valid_trees.specs.Shapes.{FrameShape}
use Rattle.valid_trees.specs.Trees.{TreeIsValid}

-- The numbered tree of a valid tree is valid, in a loop that may be overlapped as elsewhere.
abbrev pub NumberedTreesAreValid : Type 0
NumberedTreesAreValid = (frame : FrameShape) (scope : Scope) (blocks : SequenceTree) → TreeIsValid frame blocks → TreeIsValid frame (numbered_sequence scope blocks)
