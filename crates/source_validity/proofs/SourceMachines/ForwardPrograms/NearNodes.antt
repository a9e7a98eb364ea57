-- The constants of a laid out program are near, where those of its tree are.
use Rattle.std.proofs.Common.{◌≡◌, ℕ, zero, suc, ◌+◌, ◌≤◌, subst, Bool, true, false, List, [], ◌∷◌, ◌++◌, map, arith}
use Rattle.std.specs.Prelude.{slice_get, Option, Some, None, IfSome, if◌then◌else◌}
use Rattle.std.specs.Option.{option_map}
use Rattle.std.specs.List.{All}
use Rattle.std.proofs.lemmas.List.Elements.{All-nil, All-cons}
use Rattle.ir_core.specs.declared.body.Op.{Op}
use Rattle.ir_core.specs.declared.body.Operand.{Operand}
use Rattle.ir_core.specs.declared.body.Out.{Out}
use Rattle.ir_core.specs.declared.body.Source.{Source}
use Rattle.ir_core.specs.declared.body.Source.TheVariants as source
use Rattle.ir_core.specs.declared.cfg.Cfg.{Cfg}
use Rattle.ir_core.specs.declared.cfg.Node.{Node}
use Rattle.ir_core.specs.declared.cfg.Node.TheVariants as node
use Rattle.ir_core.specs.declared.stamp.Untimed.{Untimed}
use Rattle.ir_core.specs.Bodies.{OpTree, Shapes, op_of}
use Rattle.ir_core.specs.Trees.{BlockTree, BodyTree, SequenceTree, sequence, PartTrees, no_part, more_parts, ShapeTree, fork, loop, switch, land, overlapped, SideTree, no_side, side, ArmTrees, no_arm, more_arms}
use Rattle.passes.specs.Conversion.Outs.{is_set}
use Rattle.passes.specs.Conversion.Overlapping.{carried_from, carried, carried_op, iteration}
use Rattle.ir_layout.specs.Nodes.{NodeTree, plain, looped, node_of}
use Rattle.ir_layout.specs.Sizes.{sequence_size, side_size, parts_size, arms_size}
use Rattle.ir_layout.specs.Layout.{Ahead, onto, tested, Around, laid_block, ahead_of_parts, behind_shape, before_parts, in_loop, in_switch, body_start, step_start, laid, laid_parts, laid_shape, laid_side, laid_arms}
use Rattle.program_validity.specs.Programs.{body_in}
use Rattle.sound_trees.specs.Trees.{SequenceHas, PartsHave, ShapeHas, SideHas, ArmsHave}
use Rattle.sound_trees.specs.Ready.{IsNear, AreNear, IsNearIf, OpsAreReady, BlockIsReady}
use Rattle.source_validity.specs.SourceMachines.ForwardPrograms.NearConstants.{IsNearConstant, HasNearConstant, HaveNearConstants, ConstantsAreNear}

-- ---- operands

-- of this iteration, or of the one before
constant_near : (s : Source) (distance : ℕ) → distance ≤ 1 → IsNearConstant s distance
constant_near (source.Constant w) distance h = omega (arith, h)
constant_near (source.Variable v) distance h = tt
constant_near (source.Result op) distance h = tt

own_near : (x : Operand) → IsNear x → HasNearConstant x
own_near x h = constant_near x.value x.distance (omega (arith, h))

own_args : (xs : List Operand) → AreNear xs → All HasNearConstant xs
own_args [] h = All-nil HasNearConstant
own_args (x ∷ xs) h = All-cons HasNearConstant x xs (own_near x h.0) (own_args xs h.1)

own_guard : (x : Option Operand) → IsNearIf x → IfSome x HasNearConstant
own_guard None h = tt
own_guard (Some x) h = own_near x h

-- ---- iterations, whose variables may be of the iteration before

carried_low : (outs : List Out) (x : Operand) → IsNear x → (carried outs x).distance ≤ 1
carried_low outs x h = at x.value where
  by : (t : Bool) → (if t then record x { distance = 1 } else x).distance ≤ 1
  by true = omega arith
  by false = omega (arith, h)

  at : (s : Source) → (carried_from outs x s).distance ≤ 1
  at (source.Constant w) = omega (arith, h)
  at (source.Variable v) = by (is_set outs v)
  at (source.Result op) = omega (arith, h)

carried_near : (outs : List Out) (x : Operand) → IsNear x → HasNearConstant (carried outs x)
carried_near outs x h = constant_near (carried outs x).value (carried outs x).distance (carried_low outs x h)

carried_args : (outs : List Out) (xs : List Operand) → AreNear xs → All HasNearConstant (map (carried outs) xs)
carried_args outs [] h = All-nil HasNearConstant
carried_args outs (x ∷ xs) h = All-cons HasNearConstant (carried outs x) (map (carried outs) xs) (carried_near outs x h.0) (carried_args outs xs h.1)

carried_guard : (outs : List Out) (x : Option Operand) → IsNearIf x → IfSome (option_map (carried outs) x) HasNearConstant
carried_guard outs None h = tt
carried_guard outs (Some x) h = carried_near outs x h

-- ---- operations

abbrev pub OpsAreNear : List OpTree → Type 0
OpsAreNear [] = Unit {0}
OpsAreNear (op ∷ ops) = HaveNearConstants op.args op.guard × OpsAreNear ops

abbrev pub BodyIsNear : BodyTree → Type 0
BodyIsNear b = OpsAreNear b.ops

module _ (shapes : Shapes) (words : List ℕ) where
  own_ops : (before ops : List OpTree) → OpsAreReady shapes words true before ops → OpsAreNear ops
  own_ops before [] h = tt
  own_ops before (op ∷ ops) h = (record { each = own_args op.args h.0.args; guarded = own_guard op.guard h.0.guard }, own_ops (before ++ op ∷ []) ops h.1)

  carried_ops : (outs : List Out) (before ops : List OpTree) → OpsAreReady shapes words true before ops → OpsAreNear (map (carried_op outs) ops)
  carried_ops outs before [] h = tt
  carried_ops outs before (op ∷ ops) h = (record { each = carried_args outs op.args h.0.args; guarded = carried_guard outs op.guard h.0.guard }, carried_ops outs (before ++ op ∷ []) ops h.1)

  pub iteration_near : (known : Operand) (b : BlockTree) → BlockIsReady shapes words true b → BodyIsNear (iteration known b)
  iteration_near known b h = carried_ops b.outs [] b.ops h.ops

  -- ---- trees

  abbrev NodeIsNear : NodeTree → Type 0
  NodeIsNear (plain point body end_) = BodyIsNear body
  NodeIsNear (looped point body next) = BodyIsNear body

  abbrev pub NodesAreNear : List NodeTree → Type 0
  NodesAreNear [] = Unit {0}
  NodesAreNear (n ∷ nodes) = NodeIsNear n × NodesAreNear nodes

  both_near : (xs ys : List NodeTree) → NodesAreNear xs → NodesAreNear ys → NodesAreNear (xs ++ ys)
  both_near [] ys h k = k
  both_near (x ∷ xs) ys h k = (h.0, both_near xs ys h.1 k)

  abbrev B : BlockTree → Type 0
  B = BlockIsReady shapes words true

  abbrev L : SequenceTree → SequenceTree → Type 0
  L test body = Unit {0}

  mutual
    pub laid_near : (around : Around) (ahead : Ahead) (place : ℕ) (s : SequenceTree) → SequenceHas B L BodyIsNear s → NodesAreNear (laid around ahead place s)
    laid_near around ahead place (sequence first rest) h = (own_ops [] first.ops h.0.ops, parts_near around ahead (place + 1) rest h.1)

    parts_near : (around : Around) (ahead : Ahead) (place : ℕ) (p : PartTrees) → PartsHave B L BodyIsNear p → NodesAreNear (laid_parts around ahead place p)
    parts_near around ahead place no_part h = tt
    parts_near around ahead place (more_parts shape after rest) h =
        let further = behind_shape place shape + 1 in
        let inner = before_parts further rest around in
        both_near (laid_shape inner place shape) (laid_block inner (ahead_of_parts further rest ahead) after ∷ laid_parts around ahead further rest) (shape_near inner place shape h.0)
        (own_ops [] after.ops h.1.ops, parts_near around ahead further rest h.2)

    shape_near : (around : Around) (place : ℕ) (shape : ShapeTree) → ShapeHas B L BodyIsNear shape → NodesAreNear (laid_shape around place shape)
    shape_near around place (fork yes_ no_ convertible) h =
        let after = place + (side_size yes_ + side_size no_) in
        both_near (laid_side around after place yes_) (laid_side around after (place + side_size yes_) no_) (side_near around after place yes_ h.0) (side_near around after (place + side_size yes_) no_ h.1)
    shape_near around place (loop post test body step eligible) h =
        let after = place + (sequence_size test + (sequence_size body + side_size step)) in
        let start = step_start place test body step in
        let inner = in_loop after start around in
        let second = laid inner (onto start) (body_start place test) body in
        let third = laid_side inner place (body_start place test + sequence_size body) step in
        both_near (laid inner (tested (body_start place test) after) place test) (second ++ third) (laid_near inner (tested (body_start place test) after) place test h.0)
        (both_near second third (laid_near inner (onto start) (body_start place test) body h.1) (side_near inner place (body_start place test + sequence_size body) step h.2))
    shape_near around place (switch dead targets other arms) h =
        let inner = in_switch (place + (parts_size dead + arms_size arms)) around in
        let start = place + parts_size dead in
        both_near (laid_parts inner (onto start) place dead) (laid_arms inner start arms) (parts_near inner (onto start) place dead h.0) (arms_near inner start arms h.1)
    shape_near around place (land number) h = tt
    shape_near around place (overlapped point body) h = (h, tt)

    side_near : (around : Around) (after place : ℕ) (s : SideTree) → SideHas B L BodyIsNear s → NodesAreNear (laid_side around after place s)
    side_near around after place no_side h = tt
    side_near around after place (side blocks) h = laid_near around (onto after) place blocks h

    arms_near : (around : Around) (place : ℕ) (p : ArmTrees) → ArmsHave B L BodyIsNear p → NodesAreNear (laid_arms around place p)
    arms_near around place no_arm h = tt
    arms_near around place (more_arms first rest) h =
        let further = place + sequence_size first in
        both_near (laid around (onto further) place first) (laid_arms around further rest) (laid_near around (onto further) place first h.0) (arms_near around further rest h.1)

  -- ---- the code's nodes

  op_near : (ops : List (Op Untimed)) (k : ℕ) (op : Op Untimed) → OpsAreNear (map op_of ops) → slice_get ops k ≡ Some op → HaveNearConstants op.args.items op.guard
  op_near [] k op h at = absurd cc
  op_near (x ∷ ops) zero op h at = let same : x ≡ op = cc in subst (λ (y : Op Untimed). HaveNearConstants y.args.items y.guard) same h.0
  op_near (x ∷ ops) (suc k) op h at = op_near ops k op h.1 at

  body_near : (n : Node Untimed) → NodeIsNear (node_of n) → OpsAreNear (map op_of (body_in n).ops.items)
  body_near (node.Plain block) h = h
  body_near (node.Looped region) h = h

  node_near : (nodes : List (Node Untimed)) (i : ℕ) (n : Node Untimed) → NodesAreNear (map node_of nodes) → slice_get nodes i ≡ Some n → OpsAreNear (map op_of (body_in n).ops.items)
  node_near [] i n h at = absurd cc
  node_near (m ∷ nodes) zero n h at = let same : m ≡ n = cc in subst (λ (x : Node Untimed). OpsAreNear (map op_of (body_in x).ops.items)) same (body_near m h.0)
  node_near (m ∷ nodes) (suc i) n h at = node_near nodes i n h.1 at

  pub program_near : (cfg : Cfg Untimed) → NodesAreNear (map node_of cfg.nodes.items) → ConstantsAreNear cfg
  program_near cfg h i k n op at there = op_near (body_in n).ops.items k op (node_near cfg.nodes.items i n h at) there
