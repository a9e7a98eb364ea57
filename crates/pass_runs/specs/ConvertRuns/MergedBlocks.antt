-- What merging and conversion keep.
use Rattle.std.specs.Prelude.{ℕ, List}
use Rattle.ir_core.specs.Bodies.{Shapes}
use Rattle.pass_runs.specs.ConvertRuns.Blocks.{MergesKeepBlocks}
use Rattle.pass_runs.specs.ConvertRuns.{KeepsRuns}

-- A fork whose branches are one block each, merged into the block before it, does what that block and the branch that is taken do one after another.
abbrev pub MergedBlocksAreKept : Type 0
MergedBlocksAreKept = (shapes : Shapes) (words : List ℕ) → MergesKeepBlocks shapes words

-- So a converted tree has the run of the tree, for all shapes.
abbrev pub ConvertedTreesKeepRuns : Type 0
ConvertedTreesKeepRuns = (shapes : Shapes) (words : List ℕ) → KeepsRuns shapes words
