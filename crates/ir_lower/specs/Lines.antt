-- Sequences of blocks while they grow, without where they lie in memory.
use Rattle.std.specs.Prelude.{List, [], ◌∷◌, map}
use Rattle.ir_core.specs.Trees.{BlockTree, block_of, exit_of, SequenceTree, sequence, sequence_of, PartTrees, no_part, more_parts, PartTree, part_of, ShapeTree, shape_of, ArmTrees, no_arm, more_arms}
use Rattle.block_draft.specs.Drafts.{open_at}
use Rattle.passes.specs.Lowering.{Rest, parts_of}
use Rattle.ir_lower.specs.declared.line.Closed.{Closed}
use Rattle.ir_lower.specs.declared.line.Closed.TheVariants as closed
use Rattle.ir_lower.specs.declared.line.Line.{Line}
use Rattle.ir_lower.specs.declared.arms.Arms.{Arms}

-- the block that is open
abbrev pub open_of : Line → BlockTree
open_of line = open_at line.point (exit_of line.exit) line.draft

-- parts, and behind them further ones
abbrev pub with_parts : List PartTree → PartTrees → PartTrees
with_parts [] more = more
with_parts (p ∷ ps) more = more_parts p.shape p.after (with_parts ps more)

-- a shape, and behind it a sequence
abbrev pub shape_before : ShapeTree → SequenceTree → PartTrees
shape_before shape (sequence first rest) = more_parts shape first rest

-- a sequence behind the blocks that are closed
abbrev pub behind : Closed → SequenceTree → SequenceTree
behind closed.Nothing blocks = blocks
behind (closed.Parts first rest shape) blocks = sequence (block_of first) (with_parts (map part_of rest.items) (shape_before (shape_of shape) blocks))

-- the sequence that a line becomes, with what follows its open block
abbrev pub ended : Line → Rest → SequenceTree
ended line rest = behind line.closed (rest (open_of line))

-- ---- arms

-- arms, and behind them further ones
abbrev pub with_arms : List SequenceTree → ArmTrees → ArmTrees
with_arms [] more = more
with_arms (s ∷ ss) more = more_arms s (with_arms ss more)

-- the arms that are closed, the open one with what follows its open block, and further arms
abbrev pub ended_arms : Arms → Rest → ArmTrees → ArmTrees
ended_arms arms rest more = with_arms (map sequence_of arms.closed.items) (more_arms (ended arms.line.value rest) more)

-- the parts of the first arm
abbrev pub first_parts : ArmTrees → PartTrees
first_parts no_arm = no_part
first_parts (more_arms first rest) = parts_of first

abbrev pub later_arms : ArmTrees → ArmTrees
later_arms no_arm = no_arm
later_arms (more_arms first rest) = rest
