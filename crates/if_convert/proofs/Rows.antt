-- Shapes by their variants, and rows of parts and arms.
use Rattle.std.proofs.Common.{vec_len, ◌≡◌, ◌∙◌, ℕ, zero, suc, min, drop, true, false, length, arith, List, [], ◌∷◌, ◌++◌, map, refl, ap, ap₂, sym, Bool, None, Vec, Global}
use Rattle.std.proofs.lemmas.Bool.{eqb-true}
use Rattle.std.proofs.lemmas.List.{map-append}
use Rattle.std.specs.Prelude.{◌==◌, IfOk}
use Rattle.std.specs.declared.result.Result.{Result}
use Rattle.std.specs.declared.result.Result.TheVariants.{Ok, Err}
use Rattle.hls_base.specs.declared.point.Point.{Point}
use Rattle.ir_core.specs.declared.body.Body.{Body}
use Rattle.ir_core.specs.declared.stamp.Untimed.{Untimed}
use Rattle.ir_core.specs.declared.tree.BasicBlock.{BasicBlock}
use Rattle.ir_core.specs.declared.tree.Part.{Part}
use Rattle.ir_core.specs.declared.tree.Sequence.{Sequence, out-Sequence, roll-Sequence}
use Rattle.ir_core.specs.declared.tree.Shape.TheVariants as v
use Rattle.ir_core.specs.declared.tree.Shape.TheOpen.{Shape-F}
use Rattle.ir_core.specs.declared.tree.Shape.TheFolds.{fold_out-Part, fold_out-Sequence, fold-roll-Sequence, fold-roll-Shape}
use Rattle.ir_core.specs.Trees.{BlockTree, ShapeTree, PartTree, PartTrees, no_part, more_parts, ArmTrees, no_arm, more_arms, SequenceTree, sequence, part_row, part_of, shape_of, block_of, shape_step, part_step, sequence_step, arm_row, sequence_of, exit_of, break_, overlapped, body_of}
use Rattle.passes.specs.Conversion.Merging.{is_only, test_of}
use Rattle.passes.specs.Conversion.Overlapping.{test_if, test_alone}
use Rattle.passes.specs.Conversion.{Scope, converted_sequence, converted_behind, converted_parts, converted_shape, converted_arms}
use Rattle.if_convert.specs.declared.line.Line.{Line}
use Rattle.if_convert.specs.Blocks.{parts_before, behind_shape, last_of, before_last}

pub part_out : (p : Part) → part_of p ≡ record { shape = shape_of p.shape; after = block_of p.after }
part_out p = fold_out-Part ShapeTree PartTree SequenceTree shape_step part_step sequence_step p

pub sequence_out : (s : Sequence) → sequence_of s ≡ sequence (block_of (out-Sequence s).first) (part_row (map part_of (out-Sequence s).rest.items))
sequence_out s = fold_out-Sequence ShapeTree PartTree SequenceTree shape_step part_step sequence_step s

pub sequence_rolled : (first : BasicBlock) (rest : Vec Part Global) → sequence_of (roll-Sequence (record { first = first; rest = rest })) ≡ sequence (block_of first) (part_row (map part_of rest.items))
sequence_rolled first rest = fold-roll-Sequence ShapeTree PartTree SequenceTree shape_step part_step sequence_step (record { first = first; rest = rest })

pub counted : {X : Type 0} (ps : Vec X Global) (b : Bool) → (vec_len ps == 0) ≡ b → (length ps.items == 0) ≡ b
counted ps b e = let ok = ps.ok in let same : length ps.items ≡ vec_len ps = omega (arith, ok) in ap (λ n. n == 0) same ∙ e

-- what is behind the first elements, of which there may be fewer
pub behind_first : {X : Type 0} (n : ℕ) (xs : List X) → drop (min n (length xs)) xs ≡ drop n xs
behind_first zero xs = let on : min zero (length xs) ≡ zero = omega arith in ap (λ k. drop k xs) on
behind_first (suc n) [] = let on : min (suc n) 0 ≡ 0 = omega arith in ap (λ k. drop k []) on
behind_first (suc n) (x ∷ xs) = let on : min (suc n) (length (x ∷ xs)) ≡ suc (min n (length xs)) = omega arith in ap (λ k. drop k (x ∷ xs)) on ∙ behind_first n xs

-- ---- sequences of one block alone

pub not_only : (s : Sequence) → (length (out-Sequence s).rest.items == 0) ≡ false → is_only (sequence_of s) ≡ false
not_only s h = ap is_only (sequence_out s) ∙ by (out-Sequence s).rest.items h where
  by : (ps : List Part) → (length ps == 0) ≡ false → is_only (sequence (block_of (out-Sequence s).first) (part_row (map part_of ps))) ≡ false
  by [] h = absurd cc
  by (p ∷ ps) h = refl

pub alone : (s : Sequence) → (length (out-Sequence s).rest.items == 0) ≡ true → test_alone (sequence_of s) ≡ test_if (block_of (out-Sequence s).first) (test_of (exit_of (out-Sequence s).first.exit))
alone s h = ap test_alone (sequence_out s) ∙ by (out-Sequence s).rest.items h where
  by : (ps : List Part) → (length ps == 0) ≡ true → test_alone (sequence (block_of (out-Sequence s).first) (part_row (map part_of ps))) ≡ test_if (block_of (out-Sequence s).first) (test_of (exit_of (out-Sequence s).first.exit))
  by [] h = refl
  by (p ∷ ps) h = let e = eqb-true (length (p ∷ ps)) 0 h in absurd (omega (arith, e))

pub not_alone : (s : Sequence) → (length (out-Sequence s).rest.items == 0) ≡ false → test_alone (sequence_of s) ≡ None
not_alone s h = ap test_alone (sequence_out s) ∙ by (out-Sequence s).rest.items h where
  by : (ps : List Part) → (length ps == 0) ≡ false → test_alone (sequence (block_of (out-Sequence s).first) (part_row (map part_of ps))) ≡ None
  by [] h = absurd cc
  by (p ∷ ps) h = refl

-- ---- shapes by their variants

pub overlapped_out : (point : Point) (body : Body Untimed) → shape_of (v.Overlapped point body) ≡ overlapped point (body_of body)
overlapped_out point body = ap shape_of (sym (v.rolls-Overlapped point body)) ∙ fold-roll-Shape ShapeTree PartTree SequenceTree shape_step part_step sequence_step (Shape-F.Overlapped point body)

-- ---- parts

pub before_more : (ps : List PartTree) (p : PartTree) (parts : PartTrees) → parts_before (ps ++ p ∷ []) parts ≡ parts_before ps (more_parts p.shape p.after parts)
before_more [] p parts = refl
before_more (q ∷ ps) p parts = ap (more_parts q.shape q.after) (before_more ps p parts)

-- a part that is put behind the others
pub pushed : (rest new : List Part) (p : Part) (b : BlockTree) (parts : PartTrees) → new ≡ rest ++ p ∷ [] → block_of p.after ≡ b → parts_before (map part_of new) parts ≡ parts_before (map part_of rest) (more_parts (shape_of p.shape) b parts)
pushed rest new p b parts e same =
    ap (λ l. parts_before l parts) (ap (map part_of) e ∙ map-append part_of rest (p ∷ [])) ∙ before_more (map part_of rest) (part_of p) parts
    ∙ ap (λ (q : PartTree). parts_before (map part_of rest) (more_parts q.shape q.after parts)) (part_out p) ∙ ap (λ x. parts_before (map part_of rest) (more_parts (shape_of p.shape) x parts)) same

pub row_none : (ps : List PartTree) → part_row ps ≡ parts_before ps no_part
row_none [] = refl
row_none (p ∷ ps) = ap (more_parts p.shape p.after) (row_none ps)

pub no_items : {A : Type 0} (xs : List A) → length xs ≡ 0 → xs ≡ []
no_items [] e = refl
no_items (x ∷ xs) e = absurd (omega (arith, e))

pub both_ok : {T E X : Type 0} (r : Result T E) (P : T → Type 0) (Q : X → T → Type 0) (K : T → Type 0) → IfOk r P → ((s : X) → IfOk r (Q s)) → ((x : T) → P x → ((s : X) → Q s x) → K x) → IfOk r K
both_ok (Ok x) P Q K p q h = h x p q
both_ok (Err y) P Q K p q h = tt

-- what stands behind a block that leads to nothing
abbrev pub rest_of : SequenceTree → PartTrees
rest_of (sequence first rest) = rest

-- ---- arms

arms_behind : ArmTrees → SequenceTree → ArmTrees
arms_behind no_arm s = more_arms s no_arm
arms_behind (more_arms first rest) s = more_arms first (arms_behind rest s)

arms_more : (ss : List SequenceTree) (s : SequenceTree) → arm_row (ss ++ s ∷ []) ≡ arms_behind (arm_row ss) s
unfolding arms_behind
arms_more [] s = refl
arms_more (r ∷ ss) s = ap (more_arms r) (arms_more ss s)

converted_arms_behind : (scope : Scope) (a : ArmTrees) (s : SequenceTree) → converted_arms scope (arms_behind a s) ≡ arms_behind (converted_arms scope a) (converted_sequence scope s)
unfolding arms_behind
converted_arms_behind scope no_arm s = refl
converted_arms_behind scope (more_arms first rest) s = ap (more_arms (converted_sequence scope first)) (converted_arms_behind scope rest s)

pub arms_turn : (scope : Scope) (done : List Sequence) (d : Sequence) (yielded : List Sequence) (a : Sequence)
    → arm_row (map sequence_of done) ≡ converted_arms scope (arm_row (map sequence_of yielded)) → sequence_of d ≡ converted_sequence scope (sequence_of a)
    → arm_row (map sequence_of (done ++ d ∷ [])) ≡ converted_arms scope (arm_row (map sequence_of (yielded ++ a ∷ [])))
arms_turn scope done d yielded a before same =
    ap arm_row (map-append sequence_of done (d ∷ [])) ∙ arms_more (map sequence_of done) (sequence_of d) ∙ ap₂ arms_behind before same
    ∙ sym (ap (λ l. converted_arms scope (arm_row l)) (map-append sequence_of yielded (a ∷ [])) ∙ ap (converted_arms scope) (arms_more (map sequence_of yielded) (sequence_of a)) ∙ converted_arms_behind scope (arm_row (map sequence_of yielded)) (sequence_of a))

-- ---- parts before arms, which nothing leads to

pub dead_parts : (scope : Scope) (b : BlockTree) → b.exit ≡ break_ → (parts : PartTrees) (s : SequenceTree) → s ≡ converted_behind scope b parts → rest_of s ≡ converted_parts scope parts
dead_parts scope b e no_part s h = ap rest_of h
dead_parts scope b e (more_parts shape after rest) s h = ap rest_of (h ∙ (λ i. behind_shape scope (record b { exit = e i }) (converted_shape scope shape) after rest))

-- ---- parts behind an open block

pub behind_turn : (scope : Scope) (whole : SequenceTree) (line gone : Line) (p : Part) (items rest : List Part) (shape : ShapeTree) → items ≡ p ∷ rest → shape ≡ converted_shape scope (shape_of p.shape)
    → ((more : PartTrees) → before_last gone (converted_behind scope (last_of gone) more) ≡ before_last line (behind_shape scope (last_of line) shape (block_of p.after) more))
    → before_last line (converted_behind scope (last_of line) (part_row (map part_of items))) ≡ whole → before_last gone (converted_behind scope (last_of gone) (part_row (map part_of rest))) ≡ whole
behind_turn scope whole line gone p items rest shape step same turn before =
    let more = part_row (map part_of rest) in
    turn more ∙ ap (λ s. before_last line (behind_shape scope (last_of line) s (block_of p.after) more)) same
    ∙ sym (ap (λ l. before_last line (converted_behind scope (last_of line) (part_row (map part_of l)))) step
    ∙ ap (λ (q : PartTree). before_last line (converted_behind scope (last_of line) (more_parts q.shape q.after more))) (part_out p))
    ∙ before

pub behind_whole : (scope : Scope) (whole : SequenceTree) (line : Line) (items : List Part) (s : SequenceTree) → items ≡ []
    → before_last line (converted_behind scope (last_of line) (part_row (map part_of items))) ≡ whole → s ≡ before_last line (sequence (last_of line) no_part) → s ≡ whole
behind_whole scope whole line items s none before closed =
    closed ∙ sym (ap (λ l. before_last line (converted_behind scope (last_of line) (part_row (map part_of l)))) none) ∙ before
