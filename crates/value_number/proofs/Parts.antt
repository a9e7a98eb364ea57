-- Parts and arms one by one.
use Rattle.std.proofs.Common.{◌≡◌, ◌∙◌, List, [], ◌∷◌, ◌++◌, map, refl, ap, ap₂, sym, Vec, Global}
use Rattle.std.proofs.lemmas.List.{map-append}
use Rattle.ir_core.specs.declared.tree.Part.{Part}
use Rattle.ir_core.specs.declared.tree.BasicBlock.{BasicBlock}
use Rattle.ir_core.specs.declared.tree.Sequence.{Sequence, out-Sequence, roll-Sequence}
use Rattle.ir_core.specs.declared.tree.Shape.TheFolds.{fold_out-Part, fold_out-Sequence, fold-roll-Sequence}
use Rattle.ir_core.specs.Trees.{ShapeTree, PartTree, PartTrees, no_part, more_parts, ArmTrees, no_arm, more_arms, SequenceTree, sequence, part_row, part_of, shape_of, block_of, shape_step, part_step, sequence_step, arm_row, sequence_of}
use Rattle.passes.specs.Numbering.{Scope, numbered_block, numbered_sequence, numbered_parts, numbered_shape, numbered_arms}

pub part_out : (p : Part) → part_of p ≡ record { shape = shape_of p.shape; after = block_of p.after }
part_out p = fold_out-Part ShapeTree PartTree SequenceTree shape_step part_step sequence_step p

pub sequence_out : (s : Sequence) → sequence_of s ≡ sequence (block_of (out-Sequence s).first) (part_row (map part_of (out-Sequence s).rest.items))
sequence_out s = fold_out-Sequence ShapeTree PartTree SequenceTree shape_step part_step sequence_step s

pub sequence_rolled : (first : BasicBlock) (rest : Vec Part Global) → sequence_of (roll-Sequence (record { first = first; rest = rest })) ≡ sequence (block_of first) (part_row (map part_of rest.items))
sequence_rolled first rest = fold-roll-Sequence ShapeTree PartTree SequenceTree shape_step part_step sequence_step (record { first = first; rest = rest })

-- ---- rows that grow at their ends

parts_behind : PartTrees → PartTree → PartTrees
parts_behind no_part p = more_parts p.shape p.after no_part
parts_behind (more_parts shape after rest) p = more_parts shape after (parts_behind rest p)

row_more : (ps : List PartTree) (p : PartTree) → part_row (ps ++ p ∷ []) ≡ parts_behind (part_row ps) p
unfolding parts_behind
row_more [] p = refl
row_more (q ∷ ps) p = ap (more_parts q.shape q.after) (row_more ps p)

numbered_behind : (scope : Scope) (ps : PartTrees) (p : PartTree)
    → numbered_parts scope (parts_behind ps p) ≡ parts_behind (numbered_parts scope ps) (record { shape = numbered_shape scope p.shape; after = numbered_block scope p.after })
unfolding parts_behind
numbered_behind scope no_part p = refl
numbered_behind scope (more_parts shape after rest) p = ap (more_parts (numbered_shape scope shape) (numbered_block scope after)) (numbered_behind scope rest p)

pub parts_turn : (scope : Scope) (done : List Part) (d : Part) (yielded : List Part) (p : Part)
    → part_row (map part_of done) ≡ numbered_parts scope (part_row (map part_of yielded)) → shape_of d.shape ≡ numbered_shape scope (shape_of p.shape) → block_of d.after ≡ numbered_block scope (block_of p.after)
    → part_row (map part_of (done ++ d ∷ [])) ≡ numbered_parts scope (part_row (map part_of (yielded ++ p ∷ [])))
parts_turn scope done d yielded p before shape after =
    ap part_row (map-append part_of done (d ∷ [])) ∙ row_more (map part_of done) (part_of d)
    ∙ ap₂ parts_behind before (part_out d ∙ (λ i. record { shape = shape i; after = after i }) ∙ ap (λ (x : PartTree). record { shape = numbered_shape scope x.shape; after = numbered_block scope x.after }) (sym (part_out p)))
    ∙ sym (ap (λ l. numbered_parts scope (part_row l)) (map-append part_of yielded (p ∷ [])) ∙ ap (numbered_parts scope) (row_more (map part_of yielded) (part_of p)) ∙ numbered_behind scope (part_row (map part_of yielded)) (part_of p))

arms_behind : ArmTrees → SequenceTree → ArmTrees
arms_behind no_arm s = more_arms s no_arm
arms_behind (more_arms first rest) s = more_arms first (arms_behind rest s)

arms_more : (ss : List SequenceTree) (s : SequenceTree) → arm_row (ss ++ s ∷ []) ≡ arms_behind (arm_row ss) s
unfolding arms_behind
arms_more [] s = refl
arms_more (r ∷ ss) s = ap (more_arms r) (arms_more ss s)

numbered_arms_behind : (scope : Scope) (a : ArmTrees) (s : SequenceTree) → numbered_arms scope (arms_behind a s) ≡ arms_behind (numbered_arms scope a) (numbered_sequence scope s)
unfolding arms_behind
numbered_arms_behind scope no_arm s = refl
numbered_arms_behind scope (more_arms first rest) s = ap (more_arms (numbered_sequence scope first)) (numbered_arms_behind scope rest s)

pub arms_turn : (scope : Scope) (done : List Sequence) (d : Sequence) (yielded : List Sequence) (a : Sequence)
    → arm_row (map sequence_of done) ≡ numbered_arms scope (arm_row (map sequence_of yielded)) → sequence_of d ≡ numbered_sequence scope (sequence_of a)
    → arm_row (map sequence_of (done ++ d ∷ [])) ≡ numbered_arms scope (arm_row (map sequence_of (yielded ++ a ∷ [])))
arms_turn scope done d yielded a before same =
    ap arm_row (map-append sequence_of done (d ∷ [])) ∙ arms_more (map sequence_of done) (sequence_of d) ∙ ap₂ arms_behind before same
    ∙ sym (ap (λ l. numbered_arms scope (arm_row l)) (map-append sequence_of yielded (a ∷ [])) ∙ ap (numbered_arms scope) (arms_more (map sequence_of yielded) (sequence_of a)) ∙ numbered_arms_behind scope (arm_row (map sequence_of yielded)) (sequence_of a))
