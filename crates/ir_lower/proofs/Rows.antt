-- Shapes by their variants, and rows of parts and arms.
use Rattle.std.proofs.Common.{◌≡◌, ◌∙◌, ◌<◌, arith, length, get_or, take, drop, List, [], ◌∷◌, ◌++◌, map, refl, ap, sym, Bool, ℕ, Option, Some, None, Box, Vec, Global}
use Rattle.std.proofs.lemmas.List.{map-append}
use Rattle.std.specs.Option.{option_map}
use Rattle.ir_core.specs.declared.tree.BasicBlock.{BasicBlock}
use Rattle.ir_core.specs.declared.tree.LandId.{LandId}
use Rattle.ir_core.specs.declared.tree.Part.{Part}
use Rattle.ir_core.specs.declared.tree.Sequence.{Sequence, out-Sequence, roll-Sequence}
use Rattle.ir_core.specs.declared.tree.Shape.TheVariants as v
use Rattle.ir_core.specs.declared.tree.Shape.TheOpen.{Shape-F}
use Rattle.ir_core.specs.declared.tree.Shape.TheFolds.{fold_out-Part, fold_out-Sequence, fold-roll-Sequence, fold-roll-Shape}
use Rattle.ir_core.specs.Trees.{BlockTree, ShapeTree, PartTree, PartTrees, no_part, more_parts, ArmTrees, no_arm, more_arms, SequenceTree, sequence, part_row, part_of, shape_of, block_of, shape_step, part_step, sequence_step, fork, loop, switch, land, side_of, arm_row, sequence_of}
use Rattle.passes.specs.Lowering.{followed}
use Rattle.ir_lower.specs.Lines.{with_parts, with_arms, shape_before}

pub part_out : (p : Part) → part_of p ≡ record { shape = shape_of p.shape; after = block_of p.after }
part_out p = fold_out-Part ShapeTree PartTree SequenceTree shape_step part_step sequence_step p

pub sequence_out : (s : Sequence) → sequence_of s ≡ sequence (block_of (out-Sequence s).first) (part_row (map part_of (out-Sequence s).rest.items))
sequence_out s = fold_out-Sequence ShapeTree PartTree SequenceTree shape_step part_step sequence_step s

pub sequence_rolled : (first : BasicBlock) (rest : Vec Part Global) → sequence_of (roll-Sequence (record { first = first; rest = rest })) ≡ sequence (block_of first) (part_row (map part_of rest.items))
sequence_rolled first rest = fold-roll-Sequence ShapeTree PartTree SequenceTree shape_step part_step sequence_step (record { first = first; rest = rest })

-- ---- shapes by their variants

pub fork_out : (left_ right_ : Option Sequence) (convertible : Bool) → shape_of (v.Fork left_ right_ convertible) ≡ fork (side_of (option_map sequence_of left_)) (side_of (option_map sequence_of right_)) convertible
fork_out None None convertible = ap shape_of (sym (v.rolls-Fork None None convertible)) ∙ fold-roll-Shape ShapeTree PartTree SequenceTree shape_step part_step sequence_step (Shape-F.Fork None None convertible)
fork_out None (Some r) convertible = ap shape_of (sym (v.rolls-Fork None (Some r) convertible)) ∙ fold-roll-Shape ShapeTree PartTree SequenceTree shape_step part_step sequence_step (Shape-F.Fork None (Some r) convertible)
fork_out (Some l) None convertible = ap shape_of (sym (v.rolls-Fork (Some l) None convertible)) ∙ fold-roll-Shape ShapeTree PartTree SequenceTree shape_step part_step sequence_step (Shape-F.Fork (Some l) None convertible)
fork_out (Some l) (Some r) convertible = ap shape_of (sym (v.rolls-Fork (Some l) (Some r) convertible)) ∙ fold-roll-Shape ShapeTree PartTree SequenceTree shape_step part_step sequence_step (Shape-F.Fork (Some l) (Some r) convertible)

pub loop_out : (post : Bool) (test body : Box Sequence Global) (step : Option (Box Sequence Global)) (eligible : Bool)
    → shape_of (v.Loop post test body step eligible) ≡ loop post (sequence_of test.value) (sequence_of body.value) (side_of (option_map (λ part. sequence_of part.value) step)) eligible
loop_out post test body None eligible = ap shape_of (sym (v.rolls-Loop post test body None eligible)) ∙ fold-roll-Shape ShapeTree PartTree SequenceTree shape_step part_step sequence_step (Shape-F.Loop post test body None eligible)
loop_out post test body (Some step) eligible = ap shape_of (sym (v.rolls-Loop post test body (Some step) eligible)) ∙ fold-roll-Shape ShapeTree PartTree SequenceTree shape_step part_step sequence_step (Shape-F.Loop post test body (Some step) eligible)

pub switch_out : (dead : Vec Part Global) (targets : Vec ℕ Global) (other : Option ℕ) (arms : Vec Sequence Global)
    → shape_of (v.Choose dead targets other arms) ≡ switch (part_row (map part_of dead.items)) targets.items other (arm_row (map sequence_of arms.items))
switch_out dead targets other arms = ap shape_of (sym (v.rolls-Choose dead targets other arms)) ∙ fold-roll-Shape ShapeTree PartTree SequenceTree shape_step part_step sequence_step (Shape-F.Choose dead targets other arms)

pub land_out : (number : LandId) → shape_of (v.Land number) ≡ land number
land_out number = ap shape_of (sym (v.rolls-Land number)) ∙ fold-roll-Shape ShapeTree PartTree SequenceTree shape_step part_step sequence_step (Shape-F.Land number)

-- ---- parts

with_more : (ps : List PartTree) (p : PartTree) (more : PartTrees) → with_parts (ps ++ p ∷ []) more ≡ with_parts ps (more_parts p.shape p.after more)
with_more [] p more = refl
with_more (q ∷ ps) p more = ap (more_parts q.shape q.after) (with_more ps p more)

-- a part that is put behind the others
pub pushed : (rest new : List Part) (p : Part) (more : PartTrees) → new ≡ rest ++ p ∷ [] → with_parts (map part_of new) more ≡ with_parts (map part_of rest) (more_parts (shape_of p.shape) (block_of p.after) more)
pushed rest new p more e =
    ap (λ l. with_parts l more) (ap (map part_of) e ∙ map-append part_of rest (p ∷ [])) ∙ with_more (map part_of rest) (part_of p) more
    ∙ ap (λ (q : PartTree). with_parts (map part_of rest) (more_parts q.shape q.after more)) (part_out p)

pub row_none : (ps : List PartTree) → part_row ps ≡ with_parts ps no_part
row_none [] = refl
row_none (p ∷ ps) = ap (more_parts p.shape p.after) (row_none ps)

pub followed_is : (b : BlockTree) (shape : ShapeTree) (s : SequenceTree) → followed b shape s ≡ sequence b (shape_before shape s)
followed_is b shape (sequence first rest) = refl

pub before_followed : (before shape : ShapeTree) (b : BlockTree) (s : SequenceTree) → shape_before before (followed b shape s) ≡ more_parts before b (shape_before shape s)
before_followed before shape b (sequence first rest) = refl

-- ---- arms

with_arm : (ss : List SequenceTree) (s : SequenceTree) (more : ArmTrees) → with_arms (ss ++ s ∷ []) more ≡ with_arms ss (more_arms s more)
with_arm [] s more = refl
with_arm (r ∷ ss) s more = ap (more_arms r) (with_arm ss s more)

-- an arm that is put behind the others
pub arm_pushed : (arms new : List Sequence) (s : Sequence) (more : ArmTrees) → new ≡ arms ++ s ∷ [] → with_arms (map sequence_of new) more ≡ with_arms (map sequence_of arms) (more_arms (sequence_of s) more)
arm_pushed arms new s more e = ap (λ l. with_arms l more) (ap (map sequence_of) e ∙ map-append sequence_of arms (s ∷ [])) ∙ with_arm (map sequence_of arms) (sequence_of s) more

pub arms_none : (ss : List SequenceTree) → arm_row ss ≡ with_arms ss no_arm
arms_none [] = refl
arms_none (s ∷ ss) = ap (more_arms s) (arms_none ss)

pub front : {A : Type 0} (old new : List A) (s : A) → 0 < length old → s ≡ get_or old 0 s → new ≡ take 0 old ++ drop 1 old → old ≡ s ∷ new
front [] new s some first rest = absurd (omega (arith, some))
front (x ∷ xs) new s some first rest = λ i. sym first i ∷ sym rest i

pub no_items : {A : Type 0} (xs : List A) → length xs ≡ 0 → xs ≡ []
no_items [] e = refl
no_items (x ∷ xs) e = absurd (omega (arith, e))
