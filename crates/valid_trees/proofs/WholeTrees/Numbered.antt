-- A numbered tree names what the tree named.
use Rattle.std.proofs.Common.{◌≡◌, ℕ, zero, suc, Bool, refl, ap, sym, subst, List, [], ◌∷◌, ◌++◌, map, Option, Some, None}
use Rattle.ir_core.specs.declared.body.Out.{Out}
use Rattle.ir_core.specs.Bodies.{OpTree}
use Rattle.ir_core.specs.Trees.{BlockTree, SequenceTree, sequence, PartTrees, no_part, more_parts, ShapeTree, fork, loop, switch, land, overlapped, SideTree, no_side, side, ArmTrees, no_arm, more_arms}
use Rattle.passes.specs.Numbering.{Scope, Value, Kept, Numbered, renamed_op, renamed_out, first_bits, with_out, with_earlier, with_word, makes_out, numbered_op, numbered_ops, nothing, ops_of, numbered_block, in_loop, numbered_sequence, numbered_parts, numbered_shape, numbered_side, numbered_arms}
use Rattle.passes.specs.Numbering.Constants.{computed}
use Rattle.flat_programs.specs.Machine.Held.{IsThere}
use Rattle.flat_programs.specs.Machine.States.{VariablesThere}
use Rattle.flat_programs.specs.There.{OperationsThere, BodyThere, SequenceThere, PartsThere, ShapeThere, SideThere, ArmsThere}
use Rattle.valid_trees.specs.WholeTrees.{NumberedIsThere}
use Rattle.valid_trees.proofs.WholeTrees.Adding.{ops_more}

stays_same : (b : Bool) (ks : List Kept) (i : ℕ) → ops_of (with_out b ks i) ≡ ops_of ks
stays_same b [] i = refl
stays_same b (k ∷ ks) zero = refl
stays_same b (k ∷ ks) (suc i) = ap (λ l. k.op ∷ l) (stays_same b ks i)

ops_append : (ks : List Kept) (k : Kept) → ops_of (ks ++ k ∷ []) ≡ ops_of ks ++ k.op ∷ []
ops_append [] k = refl
ops_append (x ∷ ks) k = ap (λ l. x.op ∷ l) (ops_append ks k)

module _ (variables : ℕ) (dims : List (List ℕ)) where
  abbrev There : List OpTree → Type 0
  There = OperationsThere variables dims

  earlier_there : (s : Numbered) (op : OpTree) (is_out : Bool) (x : Option ℕ) → There (ops_of s.ops) → IsThere op.array dims → There (ops_of (with_earlier s op is_out x).ops)
  earlier_there s op is_out (Some i) h k = subst There (sym (stays_same is_out s.ops i)) h
  earlier_there s op is_out None h k = subst There (sym (ops_append s.ops (record { op = op; makes_out = is_out }))) (ops_more variables dims (ops_of s.ops) op h k)

  word_there : (apart : Bool) (s : Numbered) (op : OpTree) (is_out : Bool) (x : Option ℕ) → There (ops_of s.ops) → IsThere op.array dims → There (ops_of (with_word apart s op is_out x).ops)
  word_there apart s op is_out (Some w) h k = h
  word_there apart s op is_out None h k = earlier_there s op is_out _ h k

  all_there : (scope : Scope) (outs : List Out) (s : Numbered) (ops : List OpTree) → There (ops_of s.ops) → There ops → There (ops_of (numbered_ops scope outs s ops).ops)
  all_there scope outs s [] h k = h
  all_there scope outs s (op ∷ ops) h k =
      all_there scope outs (numbered_op scope outs s op) ops
      (word_there scope.apart s (renamed_op s.values op) (makes_out outs _) (computed (renamed_op s.values op) (first_bits scope.widths s.values op.bits op.args)) h k.0) k.1

  outs_there : (values : List Value) (xs : List Out) → VariablesThere xs variables → VariablesThere (map (renamed_out values) xs) variables
  outs_there values [] h = tt
  outs_there values (x ∷ xs) h = (h.0, outs_there values xs h.1)

  block_there : (scope : Scope) (b : BlockTree) → BodyThere variables dims b.ops b.outs → BodyThere variables dims (numbered_block scope b).ops (numbered_block scope b).outs
  block_there scope b h = (outs_there (numbered_ops scope b.outs nothing b.ops).values b.outs h.0, all_there scope b.outs nothing b.ops tt h.1)

  mutual
    sequence_there : (scope : Scope) (s : SequenceTree) → SequenceThere variables dims s → SequenceThere variables dims (numbered_sequence scope s)
    sequence_there scope (sequence first rest) h = (block_there scope first h.0, parts_there scope rest h.1)

    parts_there : (scope : Scope) (p : PartTrees) → PartsThere variables dims p → PartsThere variables dims (numbered_parts scope p)
    parts_there scope no_part h = tt
    parts_there scope (more_parts shape after rest) h = (shape_there scope shape h.0, block_there scope after h.1, parts_there scope rest h.2)

    shape_there : (scope : Scope) (shape : ShapeTree) → ShapeThere variables dims shape → ShapeThere variables dims (numbered_shape scope shape)
    shape_there scope (fork yes_ no_ c) h = (side_there scope yes_ h.0, side_there scope no_ h.1)
    shape_there scope (loop post t b s e) h = (sequence_there (in_loop scope e) t h.0, sequence_there (in_loop scope e) b h.1, side_there (in_loop scope e) s h.2)
    shape_there scope (switch dead targets other arms) h = (parts_there scope dead h.0, arms_there scope arms h.1)
    shape_there scope (land number) h = tt
    shape_there scope (overlapped point body) h = h

    side_there : (scope : Scope) (s : SideTree) → SideThere variables dims s → SideThere variables dims (numbered_side scope s)
    side_there scope no_side h = tt
    side_there scope (side blocks) h = sequence_there scope blocks h

    arms_there : (scope : Scope) (p : ArmTrees) → ArmsThere variables dims p → ArmsThere variables dims (numbered_arms scope p)
    arms_there scope no_arm h = tt
    arms_there scope (more_arms first rest) h = (sequence_there scope first h.0, arms_there scope rest h.1)

pub there : NumberedIsThere
there scope variables dims blocks h = sequence_there variables dims scope blocks h
