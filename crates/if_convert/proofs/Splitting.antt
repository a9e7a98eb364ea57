-- The trees of shapes that were split, an equation for each variant.
use Rattle.std.proofs.Common.{◌≡◌, ◌∙◌, ℕ, Bool, Option, Some, None, Box, Vec, Global, map, ap, sym}
use Rattle.std.specs.Option.{option_map}
use Rattle.hls_base.specs.declared.point.Point.{Point}
use Rattle.ir_core.specs.declared.body.Body.{Body}
use Rattle.ir_core.specs.declared.stamp.Untimed.{Untimed}
use Rattle.ir_core.specs.declared.tree.LandId.{LandId}
use Rattle.ir_core.specs.declared.tree.Part.{Part}
use Rattle.ir_core.specs.declared.tree.Sequence.{Sequence}
use Rattle.ir_core.specs.declared.tree.Shape.TheVariants as v
use Rattle.ir_core.specs.declared.tree.Shape.TheOpen.{Shape-F}
use Rattle.ir_core.specs.declared.tree.Shape.TheFolds.{fold-roll-Shape}
use Rattle.ir_core.specs.Trees.{ShapeTree, PartTree, SequenceTree, part_row, part_of, shape_of, shape_step, part_step, sequence_step, fork, loop, switch, land, overlapped, body_of, side_of, arm_row, sequence_of}
use Rattle.if_convert.specs.declared.boxes.SplitShape.TheVariants as split
use Rattle.if_convert.specs.Boxes.{shape_from}

pub fork_tree : (left right : Option (Box Sequence Global)) (convertible : Bool)
    → shape_of (shape_from (split.Fork left right convertible)) ≡ fork (side_of (option_map (λ blocks. sequence_of blocks.value) left)) (side_of (option_map (λ blocks. sequence_of blocks.value) right)) convertible
fork_tree None None convertible = ap shape_of (sym (v.rolls-Fork None None convertible)) ∙ fold-roll-Shape ShapeTree PartTree SequenceTree shape_step part_step sequence_step (Shape-F.Fork None None convertible)
fork_tree None (Some r) convertible = ap shape_of (sym (v.rolls-Fork None (Some r.value) convertible)) ∙ fold-roll-Shape ShapeTree PartTree SequenceTree shape_step part_step sequence_step (Shape-F.Fork None (Some r.value) convertible)
fork_tree (Some l) None convertible = ap shape_of (sym (v.rolls-Fork (Some l.value) None convertible)) ∙ fold-roll-Shape ShapeTree PartTree SequenceTree shape_step part_step sequence_step (Shape-F.Fork (Some l.value) None convertible)
fork_tree (Some l) (Some r) convertible =
    ap shape_of (sym (v.rolls-Fork (Some l.value) (Some r.value) convertible)) ∙ fold-roll-Shape ShapeTree PartTree SequenceTree shape_step part_step sequence_step (Shape-F.Fork (Some l.value) (Some r.value) convertible)

pub loop_tree : (post : Bool) (test body : Box Sequence Global) (step : Option (Box Sequence Global)) (eligible : Bool)
    → shape_of (shape_from (split.Loop post test body step eligible)) ≡ loop post (sequence_of test.value) (sequence_of body.value) (side_of (option_map (λ blocks. sequence_of blocks.value) step)) eligible
loop_tree post test body None eligible = ap shape_of (sym (v.rolls-Loop post test body None eligible)) ∙ fold-roll-Shape ShapeTree PartTree SequenceTree shape_step part_step sequence_step (Shape-F.Loop post test body None eligible)
loop_tree post test body (Some step) eligible = ap shape_of (sym (v.rolls-Loop post test body (Some step) eligible)) ∙ fold-roll-Shape ShapeTree PartTree SequenceTree shape_step part_step sequence_step (Shape-F.Loop post test body (Some step) eligible)

pub switch_tree : (dead : Vec Part Global) (targets : Vec ℕ Global) (other : Option ℕ) (arms : Vec Sequence Global)
    → shape_of (shape_from (split.Choose dead targets other arms)) ≡ switch (part_row (map part_of dead.items)) targets.items other (arm_row (map sequence_of arms.items))
switch_tree dead targets other arms = ap shape_of (sym (v.rolls-Choose dead targets other arms)) ∙ fold-roll-Shape ShapeTree PartTree SequenceTree shape_step part_step sequence_step (Shape-F.Choose dead targets other arms)

pub land_tree : (number : LandId) → shape_of (shape_from (split.Land number)) ≡ land number
land_tree number = ap shape_of (sym (v.rolls-Land number)) ∙ fold-roll-Shape ShapeTree PartTree SequenceTree shape_step part_step sequence_step (Shape-F.Land number)

pub overlapped_tree : (point : Box Point Global) (body : Box (Body Untimed) Global) → shape_of (shape_from (split.Overlapped point body)) ≡ overlapped point.value (body_of body.value)
overlapped_tree point body = ap shape_of (sym (v.rolls-Overlapped point.value body.value)) ∙ fold-roll-Shape ShapeTree PartTree SequenceTree shape_step part_step sequence_step (Shape-F.Overlapped point.value body.value)
