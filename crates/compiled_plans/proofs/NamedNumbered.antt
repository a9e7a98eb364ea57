-- Numbered trees name what is there.
use Rattle.std.specs.Prelude.{slice_get}
use Rattle.std.specs.Option.{option_map}
use Rattle.std.proofs.Common.{ℕ, zero, suc, Bool, ◌&&◌, sym, subst, List, [], ◌∷◌, ◌++◌, map, length, Option, Some, None}
use Rattle.pieces.specs.Program.{ArrayTree}
use Rattle.ir_core.specs.declared.body.Operand.{Operand}
use Rattle.ir_core.specs.declared.body.Out.{Out}
use Rattle.ir_core.specs.declared.body.Source.{Source}
use Rattle.ir_core.specs.declared.body.Source.TheVariants as source
use Rattle.ir_core.specs.Bodies.{OpTree}
use Rattle.ir_core.specs.Trees.{ExitTree, next, branch, choose, break_, continue_, leave, BlockTree, BodyTree, SequenceTree, sequence, PartTrees, no_part, more_parts, ShapeTree, fork, loop, switch, land, overlapped, SideTree, no_side, side, ArmTrees, no_arm, more_arms}
use Rattle.passes.specs.Numbering.Constants.{computed}
use Rattle.passes.specs.Numbering.{Scope, Value, Numbered, operand_or, standing_for, renamed, renamed_op, first_bits, earlier, with_earlier, with_word, makes_out, numbered_op, numbered_ops, nothing, ops_of, renamed_out, renamed_exit, numbered_block, in_loop, numbered_sequence, numbered_parts, numbered_shape, numbered_side, numbered_arms}
use Rattle.sound_trees.specs.Trees.{SequenceHas, PartsHave, ShapeHas, SideHas, ArmsHave}
use Rattle.sound_trees.proofs.NumberedBlocks.{stays_same, ops_append}
use Rattle.compiled_plans.specs.Operations.{AllNamed, OutsNamed, ExitNamed, BlockNamed}
use Rattle.compiled_plans.proofs.NamedAdding.{IsNamed, IsNamedIf, OpNamed, OpsNamed, ops_more}

module _ (count : ℕ) (arrays : List ArrayTree) where
  -- ---- operations on what stands for their operands

  module _ (f : Operand → Operand) (keeps : (x : Operand) → IsNamed count arrays x → IsNamed count arrays (f x)) where
    pub args_renamed : (xs : List Operand) → AllNamed count arrays xs → AllNamed count arrays (map f xs)
    args_renamed [] h = tt
    args_renamed (x ∷ xs) h = (keeps x h.0, args_renamed xs h.1)

    pub guard_renamed : (x : Option Operand) → IsNamedIf count arrays x → IsNamedIf count arrays (option_map f x)
    guard_renamed None h = tt
    guard_renamed (Some x) h = keeps x h

    pub op_as : (op : OpTree) (g : Option Operand) → OpNamed count arrays op → IsNamedIf count arrays g → OpNamed count arrays (record op { args = map f op.args; guard = g })
    op_as op g h n = record { args = args_renamed op.args h.args; guard = n; bits = h.bits; access = h.access }

  -- ---- values

  abbrev pub ValuesNamed : List Value → Type 0
  ValuesNamed [] = Unit {0}
  ValuesNamed (v ∷ vs) = IsNamed count arrays v.operand × ValuesNamed vs

  pub value_named : (vs : List Value) (i : ℕ) (x : Operand) → ValuesNamed vs → IsNamed count arrays x → IsNamed count arrays (operand_or (slice_get vs i) x)
  value_named [] i x h n = n
  value_named (v ∷ vs) zero x h n = h.0
  value_named (v ∷ vs) (suc i) x h n = value_named vs i x h.1 n

  pub values_more : (vs : List Value) (v : Value) → ValuesNamed vs → IsNamed count arrays v.operand → ValuesNamed (vs ++ v ∷ [])
  values_more [] v h n = (n, tt)
  values_more (w ∷ vs) v h n = (h.0, values_more vs v h.1 n)

  renamed_named : (values : List Value) → ValuesNamed values → (x : Operand) → IsNamed count arrays x → IsNamed count arrays (renamed values x)
  renamed_named values h x n = by x.value where
    by : (s : Source) → IsNamed count arrays (standing_for values x s)
    by (source.Constant w) = n
    by (source.Variable v) = n
    by (source.Result i) = value_named values i.0 x h n

  -- ---- operations

  record IsNumbered (s : Numbered) : Type 0 where
    ops : OpsNamed count arrays (ops_of s.ops)
    values : ValuesNamed s.values

  earlier_numbered : (s : Numbered) (op : OpTree) (is_out : Bool) (x : Option ℕ) → IsNumbered s → OpNamed count arrays op → IsNumbered (with_earlier s op is_out x)
  earlier_numbered s op is_out (Some i) h k = record { ops = subst (OpsNamed count arrays) (sym (stays_same is_out s.ops i)) h.ops; values = values_more s.values _ h.values tt }
  earlier_numbered s op is_out None h k = record {
    ops = subst (OpsNamed count arrays) (sym (ops_append s.ops (record { op = op; makes_out = is_out }))) (ops_more count arrays (ops_of s.ops) op h.ops k);
    values = values_more s.values _ h.values tt;
  }

  word_numbered : (apart : Bool) (s : Numbered) (op : OpTree) (is_out : Bool) (x : Option ℕ) → IsNumbered s → OpNamed count arrays op → IsNumbered (with_word apart s op is_out x)
  word_numbered apart s op is_out (Some w) h k = record { ops = h.ops; values = values_more s.values _ h.values tt }
  word_numbered apart s op is_out None h k = earlier_numbered s op is_out (earlier (apart && is_out) op s.ops) h k

  op_numbered : (scope : Scope) (outs : List Out) (s : Numbered) (op : OpTree) → IsNumbered s → OpNamed count arrays op → IsNumbered (numbered_op scope outs s op)
  op_numbered scope outs s op h k =
      word_numbered scope.apart s (renamed_op s.values op) (makes_out outs (length s.values)) (computed (renamed_op s.values op) (first_bits scope.widths s.values op.bits op.args)) h
      (op_as (renamed s.values) (renamed_named s.values h.values) op (option_map (renamed s.values) op.guard) k (guard_renamed (renamed s.values) (renamed_named s.values h.values) op.guard k.guard))

  ops_numbered : (scope : Scope) (outs : List Out) (s : Numbered) (ops : List OpTree) → IsNumbered s → OpsNamed count arrays ops → IsNumbered (numbered_ops scope outs s ops)
  ops_numbered scope outs s [] h k = h
  ops_numbered scope outs s (op ∷ ops) h k = ops_numbered scope outs (numbered_op scope outs s op) ops (op_numbered scope outs s op h k.0) k.1

  -- ---- blocks

  outs_numbered : (values : List Value) → ValuesNamed values → (xs : List Out) → OutsNamed count arrays xs → OutsNamed count arrays (map (renamed_out values) xs)
  outs_numbered values h [] n = tt
  outs_numbered values h (x ∷ xs) n = ((n.0.0, renamed_named values h x.value n.0.1), outs_numbered values h xs n.1)

  exit_numbered : (values : List Value) → ValuesNamed values → (e : ExitTree) → ExitNamed count arrays e → ExitNamed count arrays (renamed_exit values e)
  exit_numbered values h next n = tt
  exit_numbered values h (branch test) n = renamed_named values h test n
  exit_numbered values h (choose cases) n = args_renamed (renamed values) (renamed_named values h) cases n
  exit_numbered values h break_ n = tt
  exit_numbered values h continue_ n = tt
  exit_numbered values h (leave number) n = tt

  abbrev B : BlockTree → Type 0
  B = BlockNamed count arrays

  block_numbered : (scope : Scope) (b : BlockTree) → B b → B (numbered_block scope b)
  block_numbered scope b h =
      let s = numbered_ops scope b.outs nothing b.ops in
      let z = ops_numbered scope b.outs nothing b.ops (record { ops = tt; values = tt }) h.ops in
      record { ops = z.ops; outs = outs_numbered s.values z.values b.outs h.outs; exit = exit_numbered s.values z.values b.exit h.exit }

  -- ---- trees

  abbrev L : SequenceTree → SequenceTree → Type 0
  L t b = Unit {0}

  module _ (O : BodyTree → Type 0) where
    mutual
      pub sequence_numbered : (scope : Scope) (s : SequenceTree) → SequenceHas B L O s → SequenceHas B L O (numbered_sequence scope s)
      sequence_numbered scope (sequence first rest) h = (block_numbered scope first h.0, parts_numbered scope rest h.1)

      parts_numbered : (scope : Scope) (p : PartTrees) → PartsHave B L O p → PartsHave B L O (numbered_parts scope p)
      parts_numbered scope no_part h = tt
      parts_numbered scope (more_parts shape after rest) h = (shape_numbered scope shape h.0, block_numbered scope after h.1, parts_numbered scope rest h.2)

      shape_numbered : (scope : Scope) (shape : ShapeTree) → ShapeHas B L O shape → ShapeHas B L O (numbered_shape scope shape)
      shape_numbered scope (fork yes_ no_ c) h = (side_numbered scope yes_ h.0, side_numbered scope no_ h.1)
      shape_numbered scope (loop post t b s e) h = (sequence_numbered (in_loop scope e) t h.0, sequence_numbered (in_loop scope e) b h.1, side_numbered (in_loop scope e) s h.2, λ q. tt)
      shape_numbered scope (switch dead targets other arms) h = (parts_numbered scope dead h.0, arms_numbered scope arms h.1)
      shape_numbered scope (land number) h = tt
      shape_numbered scope (overlapped point body) h = h

      side_numbered : (scope : Scope) (s : SideTree) → SideHas B L O s → SideHas B L O (numbered_side scope s)
      side_numbered scope no_side h = tt
      side_numbered scope (side blocks) h = sequence_numbered scope blocks h

      arms_numbered : (scope : Scope) (p : ArmTrees) → ArmsHave B L O p → ArmsHave B L O (numbered_arms scope p)
      arms_numbered scope no_arm h = tt
      arms_numbered scope (more_arms first rest) h = (sequence_numbered scope first h.0, arms_numbered scope rest h.1)
