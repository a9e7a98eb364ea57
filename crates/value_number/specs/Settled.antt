-- Blocks in which nothing is left to be computed.
use Rattle.std.specs.Prelude.{Bool, true, not, ◌&&◌, List, [], ◌∷◌, Option, Some, None, is_some}
use Rattle.std.specs.Option.{option_map}
use Rattle.ir_core.specs.declared.body.Op.{Op}
use Rattle.ir_core.specs.declared.stamp.Untimed.{Untimed}
use Rattle.ir_core.specs.declared.tree.BasicBlock.{BasicBlock}
use Rattle.ir_core.specs.declared.tree.Sequence.{Sequence}
use Rattle.ir_core.specs.declared.tree.Part.{Part}
use Rattle.ir_core.specs.declared.tree.Shape.{Shape}
use Rattle.ir_core.specs.declared.tree.Shape.TheOpen.{Sequence-F, Part-F, Shape-F}
use Rattle.ir_core.specs.declared.tree.Shape.TheFolds.{fold-Sequence, fold-Part, fold-Shape}
use Rattle.ir_core.specs.Bodies.{op_of}
use Rattle.passes.specs.Numbering.Constants.{computed}

-- the operation has an operand that is no constant, or no value in C, or is none that is computed
abbrev pub is_settled : Op Untimed → Bool
is_settled op = not (is_some (computed (op_of op) 0))

abbrev pub all_settled : List (Op Untimed) → Bool
all_settled [] = true
all_settled (op ∷ ops) = is_settled op && all_settled ops

abbrev pub is_block_settled : BasicBlock → Bool
is_block_settled block = all_settled block.ops.items

abbrev pub all_true : List Bool → Bool
all_true [] = true
all_true (b ∷ bs) = b && all_true bs

abbrev pub where_there : Option Bool → Bool
where_there None = true
where_there (Some b) = b

abbrev pub sequence_step : Sequence-F Bool Bool Bool → Bool
sequence_step s = is_block_settled s.first && all_true s.rest.items

abbrev pub part_step : Part-F Bool Bool Bool → Bool
part_step p = p.shape && is_block_settled p.after

-- nothing is asked of the loops that are overlapped already
abbrev pub shape_step : Shape-F Bool Bool Bool → Bool
shape_step (Shape-F.Fork left right convertible) = where_there left && where_there right
shape_step (Shape-F.Loop post test body step eligible) = test.value && (body.value && where_there (option_map (λ part. part.value) step))
shape_step (Shape-F.Choose dead targets other arms) = all_true dead.items && all_true arms.items
shape_step (Shape-F.Land land) = true
shape_step (Shape-F.Overlapped point body) = true

-- all blocks of the tree
abbrev pub is_sequence_settled : Sequence → Bool
is_sequence_settled = fold-Sequence Bool Bool Bool shape_step part_step sequence_step

abbrev pub is_part_settled : Part → Bool
is_part_settled = fold-Part Bool Bool Bool shape_step part_step sequence_step

abbrev pub is_shape_settled : Shape → Bool
is_shape_settled = fold-Shape Bool Bool Bool shape_step part_step sequence_step
