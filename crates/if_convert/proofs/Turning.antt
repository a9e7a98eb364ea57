-- A shape, a part and a sequence are converted if what they are split into is.
use Rattle.std.proofs.Common.{◌≡◌, ◌∙◌, ℕ, Bool, Option, Box, Vec, Global, map, ap, sym, ◌&&◌}
use Rattle.std.specs.Option.{option_map}
use Rattle.hls_base.specs.declared.point.Point.{Point}
use Rattle.ir_core.specs.declared.body.Body.{Body}
use Rattle.ir_core.specs.declared.stamp.Untimed.{Untimed}
use Rattle.ir_core.specs.declared.tree.BasicBlock.{BasicBlock}
use Rattle.ir_core.specs.declared.tree.LandId.{LandId}
use Rattle.ir_core.specs.declared.tree.Part.{Part}
use Rattle.ir_core.specs.declared.tree.Sequence.{Sequence, out-Sequence}
use Rattle.ir_core.specs.declared.tree.Shape.{Shape}
use Rattle.ir_core.specs.Trees.{SequenceTree, ShapeTree, PartTrees, SideTree, sequence_of, shape_of, block_of, part_of, part_row, arm_row, side_of, fork, loop, switch}
use Rattle.passes.specs.Conversion.Merging.{opened}
use Rattle.passes.specs.Conversion.Overlapping.{converted_loop}
use Rattle.passes.specs.Conversion.{Scope, converted_sequence, converted_behind, converted_shape, converted_side, converted_parts, converted_arms}
use Rattle.if_convert.specs.declared.boxes.SplitShape.{SplitShape}
use Rattle.if_convert.specs.declared.boxes.SplitShape.TheVariants as split
use Rattle.if_convert.specs.declared.line.Line.{Line}
use Rattle.if_convert.specs.Blocks.{last_of, before_last, behind_shape}
use Rattle.if_convert.specs.Boxes.{shape_from}
use Rattle.if_convert.proofs.Rows.{sequence_out}
use Rattle.if_convert.proofs.Splitting.{fork_tree, loop_tree, switch_tree, land_tree, overlapped_tree}

abbrev pub side_tree : Option (Box Sequence Global) → SideTree
side_tree s = side_of (option_map (λ part. sequence_of part.value) s)

split_tree : (shape : Shape) (x y : SplitShape) (tree : ShapeTree) → shape_from x ≡ shape → x ≡ y → shape_of (shape_from y) ≡ tree → shape_of shape ≡ tree
split_tree shape x y tree from is same = ap shape_of (sym from) ∙ ap (λ z. shape_of (shape_from z)) is ∙ same

pub fork_turn : (scope : Scope) (shape whole : Shape) (x : SplitShape) (left right left_ right_ : Option (Box Sequence Global)) (convertible : Bool)
    → shape_from x ≡ shape → x ≡ split.Fork left right convertible → side_tree left_ ≡ converted_side scope (side_tree left) → side_tree right_ ≡ converted_side scope (side_tree right)
    → whole ≡ shape_from (split.Fork left_ right_ convertible) → shape_of whole ≡ converted_shape scope (shape_of shape)
fork_turn scope shape whole x left right left_ right_ convertible from is l r e =
    ap shape_of e ∙ fork_tree left_ right_ convertible ∙ (λ i. fork (l i) (r i) convertible)
    ∙ sym (ap (converted_shape scope) (split_tree shape x (split.Fork left right convertible) (fork (side_tree left) (side_tree right) convertible) from is (fork_tree left right convertible)))

pub loop_turn : (scope : Scope) (shape : Shape) (x : SplitShape) (post : Bool) (test body test_ body_ : Box Sequence Global) (step step_ : Option (Box Sequence Global)) (eligible overlaps : Bool) (whole : ShapeTree)
    → shape_from x ≡ shape → x ≡ split.Loop post test body step eligible → overlaps ≡ (eligible && scope.loops) → sequence_of test_.value ≡ converted_sequence scope (sequence_of test.value)
    → sequence_of body_.value ≡ converted_sequence scope (sequence_of body.value) → side_tree step_ ≡ converted_side scope (side_tree step)
    → whole ≡ converted_loop scope.widths overlaps post (sequence_of test_.value) (sequence_of body_.value) (side_tree step_) → whole ≡ converted_shape scope (shape_of shape)
loop_turn scope shape x post test body test_ body_ step step_ eligible overlaps whole from is o t b s e =
    e ∙ (λ i. converted_loop scope.widths (o i) post (t i) (b i) (s i))
    ∙ sym (ap (converted_shape scope) (split_tree shape x (split.Loop post test body step eligible) (loop post (sequence_of test.value) (sequence_of body.value) (side_tree step) eligible) from is (loop_tree post test body step eligible)))

pub switch_turn : (scope : Scope) (shape whole : Shape) (x : SplitShape) (dead dead_ : Vec Part Global) (targets : Vec ℕ Global) (other : Option ℕ) (arms arms_ : Vec Sequence Global)
    → shape_from x ≡ shape → x ≡ split.Choose dead targets other arms → part_row (map part_of dead_.items) ≡ converted_parts scope (part_row (map part_of dead.items))
    → arm_row (map sequence_of arms_.items) ≡ converted_arms scope (arm_row (map sequence_of arms.items)) → whole ≡ shape_from (split.Choose dead_ targets other arms_) → shape_of whole ≡ converted_shape scope (shape_of shape)
switch_turn scope shape whole x dead dead_ targets other arms arms_ from is d a e =
    ap shape_of e ∙ switch_tree dead_ targets other arms_ ∙ (λ i. switch (d i) targets.items other (a i))
    ∙ sym (ap (converted_shape scope) (split_tree shape x (split.Choose dead targets other arms) (switch (part_row (map part_of dead.items)) targets.items other (arm_row (map sequence_of arms.items))) from is (switch_tree dead targets other arms)))

pub land_turn : (scope : Scope) (shape whole : Shape) (x : SplitShape) (number : LandId) → shape_from x ≡ shape → x ≡ split.Land number → whole ≡ shape_from (split.Land number) → shape_of whole ≡ converted_shape scope (shape_of shape)
land_turn scope shape whole x number from is e = ap shape_of e ∙ land_tree number ∙ sym (ap (converted_shape scope) (split_tree shape x (split.Land number) _ from is (land_tree number)))

pub overlapped_turn : (scope : Scope) (shape whole : Shape) (x : SplitShape) (point : Box Point Global) (body : Box (Body Untimed) Global)
    → shape_from x ≡ shape → x ≡ split.Overlapped point body → whole ≡ shape_from (split.Overlapped point body) → shape_of whole ≡ converted_shape scope (shape_of shape)
overlapped_turn scope shape whole x point body from is e = ap shape_of e ∙ overlapped_tree point body ∙ sym (ap (converted_shape scope) (split_tree shape x (split.Overlapped point body) _ from is (overlapped_tree point body)))

pub sequence_turn : (scope : Scope) (s : Sequence) (first : BasicBlock) (rest : Vec Part Global) (line : Line) (whole : SequenceTree)
    → first ≡ (out-Sequence s).first → rest ≡ (out-Sequence s).rest → last_of line ≡ opened (block_of first) → ((t : SequenceTree) → before_last line t ≡ t)
    → whole ≡ before_last line (converted_behind scope (last_of line) (part_row (map part_of rest.items))) → whole ≡ converted_sequence scope (sequence_of s)
sequence_turn scope s first rest line whole f r last before e =
    e ∙ before (converted_behind scope (last_of line) (part_row (map part_of rest.items)))
    ∙ ap (λ b. converted_behind scope b (part_row (map part_of rest.items))) (last ∙ ap (λ (b : BasicBlock). opened (block_of b)) f)
    ∙ ap (λ (p : Vec Part Global). converted_behind scope (opened (block_of (out-Sequence s).first)) (part_row (map part_of p.items))) r
    ∙ sym (ap (converted_sequence scope) (sequence_out s))

pub part_turn : (scope : Scope) (line : Line) (part : Part) (split : Shape) (after : BasicBlock) (shape : ShapeTree) (more : PartTrees) (whole : SequenceTree)
    → split ≡ part.shape → after ≡ part.after → shape ≡ converted_shape scope (shape_of split) → whole ≡ before_last line (behind_shape scope (last_of line) shape (block_of after) more)
    → whole ≡ before_last line (behind_shape scope (last_of line) (converted_shape scope (shape_of part.shape)) (block_of part.after) more)
part_turn scope line part split after shape more whole s a same e =
    e ∙ ap (λ x. before_last line (behind_shape scope (last_of line) x (block_of after) more)) (same ∙ ap (λ x. converted_shape scope (shape_of x)) s)
    ∙ ap (λ x. before_last line (behind_shape scope (last_of line) (converted_shape scope (shape_of part.shape)) (block_of x) more)) a
