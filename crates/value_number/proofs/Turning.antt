-- A shape, a part and a sequence are numbered and settled if what they are split into is.
use Rattle.std.proofs.Common.{◌≡◌, ◌∙◌, ℕ, Bool, true, Option, Box, Vec, Global, map, ap, sym, ◌||◌}
use Rattle.std.specs.Option.{option_map}
use Rattle.hls_base.specs.declared.point.Point.{Point}
use Rattle.ir_core.specs.declared.body.Body.{Body}
use Rattle.ir_core.specs.declared.stamp.Untimed.{Untimed}
use Rattle.ir_core.specs.declared.tree.BasicBlock.{BasicBlock}
use Rattle.ir_core.specs.declared.tree.LandId.{LandId}
use Rattle.ir_core.specs.declared.tree.Part.{Part}
use Rattle.ir_core.specs.declared.tree.Sequence.{Sequence, out-Sequence, roll-Sequence}
use Rattle.ir_core.specs.declared.tree.Shape.{Shape}
use Rattle.ir_core.specs.Trees.{ShapeTree, SideTree, sequence_of, shape_of, block_of, part_of, part_row, arm_row, side_of, sequence, fork, loop, switch}
use Rattle.passes.specs.Numbering.{Scope, numbered_block, numbered_sequence, numbered_parts, numbered_shape, numbered_side, numbered_arms}
use Rattle.value_number.specs.Boxes.{shape_from}
use Rattle.value_number.specs.Settled.{all_true, is_block_settled, is_part_settled, is_sequence_settled}
use Rattle.value_number.specs.declared.boxes.SplitShape.{SplitShape}
use Rattle.value_number.specs.declared.boxes.SplitShape.TheVariants as split
use Rattle.value_number.proofs.Parts.{sequence_rolled, sequence_out}
use Rattle.value_number.proofs.Settling.{sequence_settled}
use Rattle.value_number.proofs.Splitting.{fork_tree, loop_tree, switch_tree, land_tree, overlapped_tree}

abbrev pub side_tree : Option (Box Sequence Global) → SideTree
side_tree s = side_of (option_map (λ part. sequence_of part.value) s)

split_tree : (shape : Shape) (x y : SplitShape) (tree : ShapeTree) → shape_from x ≡ shape → x ≡ y → shape_of (shape_from y) ≡ tree → shape_of shape ≡ tree
split_tree shape x y tree from is same = ap shape_of (sym from) ∙ ap (λ z. shape_of (shape_from z)) is ∙ same

pub fork_turn : (scope : Scope) (shape whole : Shape) (x : SplitShape) (left right left_ right_ : Option (Box Sequence Global)) (convertible : Bool)
    → shape_from x ≡ shape → x ≡ split.Fork left right convertible → side_tree left_ ≡ numbered_side scope (side_tree left) → side_tree right_ ≡ numbered_side scope (side_tree right)
    → whole ≡ shape_from (split.Fork left_ right_ convertible) → shape_of whole ≡ numbered_shape scope (shape_of shape)
fork_turn scope shape whole x left right left_ right_ convertible from is l r e =
    ap shape_of e ∙ fork_tree left_ right_ convertible ∙ (λ i. fork (l i) (r i) convertible)
    ∙ sym (ap (numbered_shape scope) (split_tree shape x (split.Fork left right convertible) (fork (side_tree left) (side_tree right) convertible) from is (fork_tree left right convertible)))

pub loop_turn : (scope : Scope) (shape whole : Shape) (x : SplitShape) (post : Bool) (test body test_ body_ : Box Sequence Global) (step step_ : Option (Box Sequence Global)) (eligible apart : Bool)
    → shape_from x ≡ shape → x ≡ split.Loop post test body step eligible → apart ≡ (scope.apart || eligible) → sequence_of test_.value ≡ numbered_sequence (record scope { apart = apart }) (sequence_of test.value)
    → sequence_of body_.value ≡ numbered_sequence (record scope { apart = apart }) (sequence_of body.value) → side_tree step_ ≡ numbered_side (record scope { apart = apart }) (side_tree step)
    → whole ≡ shape_from (split.Loop post test_ body_ step_ eligible) → shape_of whole ≡ numbered_shape scope (shape_of shape)
loop_turn scope shape whole x post test body test_ body_ step step_ eligible apart from is a t b s e =
    ap shape_of e ∙ loop_tree post test_ body_ step_ eligible ∙ (λ i. loop post (t i) (b i) (s i) eligible)
    ∙ ap (λ (y : Bool). loop post (numbered_sequence (record scope { apart = y }) (sequence_of test.value)) (numbered_sequence (record scope { apart = y }) (sequence_of body.value)) (numbered_side (record scope { apart = y }) (side_tree step)) eligible) a
    ∙ sym (ap (numbered_shape scope) (split_tree shape x (split.Loop post test body step eligible) (loop post (sequence_of test.value) (sequence_of body.value) (side_tree step) eligible) from is (loop_tree post test body step eligible)))

pub switch_turn : (scope : Scope) (shape whole : Shape) (x : SplitShape) (dead dead_ : Vec Part Global) (targets : Vec ℕ Global) (other : Option ℕ) (arms arms_ : Vec Sequence Global)
    → shape_from x ≡ shape → x ≡ split.Choose dead targets other arms → part_row (map part_of dead_.items) ≡ numbered_parts scope (part_row (map part_of dead.items))
    → arm_row (map sequence_of arms_.items) ≡ numbered_arms scope (arm_row (map sequence_of arms.items)) → whole ≡ shape_from (split.Choose dead_ targets other arms_) → shape_of whole ≡ numbered_shape scope (shape_of shape)
switch_turn scope shape whole x dead dead_ targets other arms arms_ from is d a e =
    ap shape_of e ∙ switch_tree dead_ targets other arms_ ∙ (λ i. switch (d i) targets.items other (a i))
    ∙ sym (ap (numbered_shape scope) (split_tree shape x (split.Choose dead targets other arms) (switch (part_row (map part_of dead.items)) targets.items other (arm_row (map sequence_of arms.items))) from is (switch_tree dead targets other arms)))

pub land_turn : (scope : Scope) (shape whole : Shape) (x : SplitShape) (number : LandId) → shape_from x ≡ shape → x ≡ split.Land number → whole ≡ shape_from (split.Land number) → shape_of whole ≡ numbered_shape scope (shape_of shape)
land_turn scope shape whole x number from is e = ap shape_of e ∙ land_tree number ∙ sym (ap (numbered_shape scope) (split_tree shape x (split.Land number) _ from is (land_tree number)))

pub overlapped_turn : (scope : Scope) (shape whole : Shape) (x : SplitShape) (point : Box Point Global) (body : Box (Body Untimed) Global)
    → shape_from x ≡ shape → x ≡ split.Overlapped point body → whole ≡ shape_from (split.Overlapped point body) → shape_of whole ≡ numbered_shape scope (shape_of shape)
overlapped_turn scope shape whole x point body from is e = ap shape_of e ∙ overlapped_tree point body ∙ sym (ap (numbered_shape scope) (split_tree shape x (split.Overlapped point body) _ from is (overlapped_tree point body)))

pub sequence_turn : (scope : Scope) (s whole : Sequence) (split_first first : BasicBlock) (split_rest rest : Vec Part Global)
    → split_first ≡ (out-Sequence s).first → split_rest ≡ (out-Sequence s).rest → block_of first ≡ numbered_block scope (block_of split_first)
    → part_row (map part_of rest.items) ≡ numbered_parts scope (part_row (map part_of split_rest.items))
    → whole ≡ roll-Sequence (record { first = first; rest = rest }) → sequence_of whole ≡ numbered_sequence scope (sequence_of s)
sequence_turn scope s whole split_first first split_rest rest f r block parts e =
    ap sequence_of e ∙ sequence_rolled first rest ∙ (λ i. sequence (block i) (parts i))
    ∙ ap (λ (b : BasicBlock). sequence (numbered_block scope (block_of b)) (numbered_parts scope (part_row (map part_of split_rest.items)))) f
    ∙ ap (λ (p : Vec Part Global). sequence (numbered_block scope (block_of (out-Sequence s).first)) (numbered_parts scope (part_row (map part_of p.items)))) r
    ∙ sym (ap (numbered_sequence scope) (sequence_out s))

pub whole_settled : (whole : Sequence) (first : BasicBlock) (rest : Vec Part Global) → is_block_settled first ≡ true → all_true (map is_part_settled rest.items) ≡ true
    → whole ≡ roll-Sequence (record { first = first; rest = rest }) → is_sequence_settled whole ≡ true
whole_settled whole first rest f r e = ap is_sequence_settled e ∙ sequence_settled first rest f r

pub shape_turn : (scope : Scope) (whole part : Part) (split shape : Shape) (after : BasicBlock) → split ≡ part.shape → shape_of shape ≡ numbered_shape scope (shape_of split)
    → whole ≡ record { shape = shape; after = after } → shape_of whole.shape ≡ numbered_shape scope (shape_of part.shape)
shape_turn scope whole part split shape after s same e = ap (λ (p : Part). shape_of p.shape) e ∙ same ∙ ap (λ x. numbered_shape scope (shape_of x)) s

pub after_turn : (scope : Scope) (whole part : Part) (split after : BasicBlock) (shape : Shape) → split ≡ part.after → block_of after ≡ numbered_block scope (block_of split)
    → whole ≡ record { shape = shape; after = after } → block_of whole.after ≡ numbered_block scope (block_of part.after)
after_turn scope whole part split after shape s same e = ap (λ (p : Part). block_of p.after) e ∙ same ∙ ap (λ (x : BasicBlock). numbered_block scope (block_of x)) s
