-- Parts, arms and their nodes, one by one.
use Rattle.std.proofs.Common.{◌≡◌, ◌≤◌, ◌∙◌, ◌+◌, ℕ, suc, List, [], ◌∷◌, ◌++◌, map, ap, sym, arith, Bool, Option, Some, None, Box, Vec, Global}
use Rattle.std.proofs.lemmas.List.{map-append}
use Rattle.std.specs.Option.{option_map}
use Rattle.ir_core.specs.declared.tree.Part.{Part}
use Rattle.ir_core.specs.declared.tree.Sequence.{Sequence}
use Rattle.ir_core.specs.declared.tree.Shape.TheVariants as v
use Rattle.ir_core.specs.declared.tree.Shape.TheOpen.{Shape-F}
use Rattle.ir_core.specs.declared.tree.Shape.TheFolds.{fold_out-Part, fold-roll-Shape}
use Rattle.ir_core.specs.Trees.{ShapeTree, PartTree, SequenceTree, more_parts, part_row, part_of, shape_of, block_of, shape_step, part_step, sequence_step, fork, loop, switch, side_of, arm_row, sequence_of}
use Rattle.ir_core.specs.Points as tp
use Rattle.ir_core.specs.Points.{Points, points_of, part_points, shape_points, joined, where_there}
use Rattle.ir_layout.specs.declared.boxes.SplitShape.TheVariants as split
use Rattle.ir_layout.specs.Boxes.{shape_from}
use Rattle.ir_layout.specs.Sizes.{sequence_size, parts_size, shape_size, arms_size}

pub part_out : (p : Part) → part_of p ≡ record { shape = shape_of p.shape; after = block_of p.after }
part_out p = fold_out-Part ShapeTree PartTree SequenceTree shape_step part_step sequence_step p

pub row_more : (p : Part) (ps : List Part) → part_row (map part_of (p ∷ ps)) ≡ more_parts (shape_of p.shape) (block_of p.after) (part_row (map part_of ps))
row_more p ps = ap (λ (x : PartTree). more_parts x.shape x.after (part_row (map part_of ps))) (part_out p)

size_append : (xs : List PartTree) (x : PartTree) → parts_size (part_row (xs ++ x ∷ [])) ≡ parts_size (part_row xs) + shape_size x.shape + 1
size_append [] x = omega arith
size_append (y ∷ ys) x = omega (arith, size_append ys x)

-- a row with one more part at its end
pub size_pushed : (ps : List Part) (p : Part) → parts_size (part_row (map part_of (ps ++ p ∷ []))) ≡ parts_size (part_row (map part_of ps)) + shape_size (shape_of p.shape) + 1
size_pushed ps p =
    ap (λ l. parts_size (part_row l)) (map-append part_of ps (p ∷ []))
    ∙ size_append (map part_of ps) (part_of p)
    ∙ ap (λ (x : PartTree). parts_size (part_row (map part_of ps)) + shape_size x.shape + 1) (part_out p)

-- ---- how many nodes are left in a row, and of arms

pub fewer_parts : (p : Part) (ps items : List Part) (n : ℕ) → items ≡ p ∷ ps → parts_size (part_row (map part_of items)) ≤ n → shape_size (shape_of p.shape) + suc (parts_size (part_row (map part_of ps))) ≤ n
fewer_parts p ps items n first h =
    let e : parts_size (part_row (map part_of items)) ≡ shape_size (shape_of p.shape) + suc (parts_size (part_row (map part_of ps))) = ap (λ l. parts_size (part_row (map part_of l))) first ∙ ap parts_size (row_more p ps) in
    omega (arith, e, h)

pub fewer_arms : (s : Sequence) (ss items : List Sequence) (n : ℕ) → items ≡ s ∷ ss → arms_size (arm_row (map sequence_of items)) ≤ n → sequence_size (sequence_of s) + arms_size (arm_row (map sequence_of ss)) ≤ n
fewer_arms s ss items n first h =
    let e : arms_size (arm_row (map sequence_of items)) ≡ sequence_size (sequence_of s) + arms_size (arm_row (map sequence_of ss)) = ap (λ l. arms_size (arm_row (map sequence_of l))) first in
    omega (arith, e, h)

-- ---- shapes by their variants

pub fork_out : (left right : Option (Box Sequence Global)) (convertible : Bool)
    → shape_of (shape_from (split.Fork left right convertible)) ≡ fork (side_of (option_map (λ part. sequence_of part.value) left)) (side_of (option_map (λ part. sequence_of part.value) right)) convertible
fork_out None None convertible = ap shape_of (sym (v.rolls-Fork None None convertible)) ∙ fold-roll-Shape ShapeTree PartTree SequenceTree shape_step part_step sequence_step (Shape-F.Fork None None convertible)
fork_out None (Some r) convertible = ap shape_of (sym (v.rolls-Fork None (Some r.value) convertible)) ∙ fold-roll-Shape ShapeTree PartTree SequenceTree shape_step part_step sequence_step (Shape-F.Fork None (Some r.value) convertible)
fork_out (Some l) None convertible = ap shape_of (sym (v.rolls-Fork (Some l.value) None convertible)) ∙ fold-roll-Shape ShapeTree PartTree SequenceTree shape_step part_step sequence_step (Shape-F.Fork (Some l.value) None convertible)
fork_out (Some l) (Some r) convertible =
    ap shape_of (sym (v.rolls-Fork (Some l.value) (Some r.value) convertible)) ∙ fold-roll-Shape ShapeTree PartTree SequenceTree shape_step part_step sequence_step (Shape-F.Fork (Some l.value) (Some r.value) convertible)

pub loop_out : (post : Bool) (test body : Box Sequence Global) (step : Option (Box Sequence Global)) (eligible : Bool)
    → shape_of (v.Loop post test body step eligible) ≡ loop post (sequence_of test.value) (sequence_of body.value) (side_of (option_map (λ part. sequence_of part.value) step)) eligible
loop_out post test body None eligible = ap shape_of (sym (v.rolls-Loop post test body None eligible)) ∙ fold-roll-Shape ShapeTree PartTree SequenceTree shape_step part_step sequence_step (Shape-F.Loop post test body None eligible)
loop_out post test body (Some step) eligible = ap shape_of (sym (v.rolls-Loop post test body (Some step) eligible)) ∙ fold-roll-Shape ShapeTree PartTree SequenceTree shape_step part_step sequence_step (Shape-F.Loop post test body (Some step) eligible)

pub switch_out : (dead : Vec Part Global) (targets : Vec ℕ Global) (other : Option ℕ) (arms : Vec Sequence Global)
    → shape_of (v.Choose dead targets other arms) ≡ switch (part_row (map part_of dead.items)) targets.items other (arm_row (map sequence_of arms.items))
switch_out dead targets other arms = ap shape_of (sym (v.rolls-Choose dead targets other arms)) ∙ fold-roll-Shape ShapeTree PartTree SequenceTree shape_step part_step sequence_step (Shape-F.Choose dead targets other arms)

pub fork_points : (left right : Option (Box Sequence Global)) (convertible : Bool)
    → shape_points (shape_from (split.Fork left right convertible)) ≡ where_there (option_map (λ part. points_of part.value) left) ++ where_there (option_map (λ part. points_of part.value) right)
fork_points None None convertible = ap shape_points (sym (v.rolls-Fork None None convertible)) ∙ fold-roll-Shape Points Points Points tp.shape_step tp.part_step tp.sequence_step (Shape-F.Fork None None convertible)
fork_points None (Some r) convertible =
    ap shape_points (sym (v.rolls-Fork None (Some r.value) convertible)) ∙ fold-roll-Shape Points Points Points tp.shape_step tp.part_step tp.sequence_step (Shape-F.Fork None (Some r.value) convertible)
fork_points (Some l) None convertible =
    ap shape_points (sym (v.rolls-Fork (Some l.value) None convertible)) ∙ fold-roll-Shape Points Points Points tp.shape_step tp.part_step tp.sequence_step (Shape-F.Fork (Some l.value) None convertible)
fork_points (Some l) (Some r) convertible =
    ap shape_points (sym (v.rolls-Fork (Some l.value) (Some r.value) convertible)) ∙ fold-roll-Shape Points Points Points tp.shape_step tp.part_step tp.sequence_step (Shape-F.Fork (Some l.value) (Some r.value) convertible)

pub loop_points : (post : Bool) (test body : Box Sequence Global) (step : Option (Box Sequence Global)) (eligible : Bool)
    → shape_points (v.Loop post test body step eligible) ≡ points_of test.value ++ (points_of body.value ++ where_there (option_map (λ part. points_of part.value) step))
loop_points post test body None eligible = ap shape_points (sym (v.rolls-Loop post test body None eligible)) ∙ fold-roll-Shape Points Points Points tp.shape_step tp.part_step tp.sequence_step (Shape-F.Loop post test body None eligible)
loop_points post test body (Some step) eligible = ap shape_points (sym (v.rolls-Loop post test body (Some step) eligible)) ∙ fold-roll-Shape Points Points Points tp.shape_step tp.part_step tp.sequence_step (Shape-F.Loop post test body (Some step) eligible)

pub switch_points : (dead : Vec Part Global) (targets : Vec ℕ Global) (other : Option ℕ) (arms : Vec Sequence Global)
    → shape_points (v.Choose dead targets other arms) ≡ joined (map part_points dead.items) ++ joined (map points_of arms.items)
switch_points dead targets other arms = ap shape_points (sym (v.rolls-Choose dead targets other arms)) ∙ fold-roll-Shape Points Points Points tp.shape_step tp.part_step tp.sequence_step (Shape-F.Choose dead targets other arms)
