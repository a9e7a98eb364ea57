-- The nodes of a tree name what the tree names.
use Rattle.std.proofs.Common.{◌≡◌, ◌+◌, ℕ, zero, suc, sym, subst, List, [], ◌∷◌, ◌++◌, length, map, Option, Some, None}
use Rattle.std.specs.Prelude.{slice_get}
use Rattle.ir_core.specs.declared.body.Op.{Op}
use Rattle.ir_core.specs.declared.cfg.Node.{Node}
use Rattle.ir_core.specs.declared.cfg.Node.TheVariants as node
use Rattle.ir_core.specs.declared.stamp.Untimed.{Untimed}
use Rattle.ir_core.specs.Bodies.{op_of}
use Rattle.ir_core.specs.Trees.{SequenceTree, sequence, PartTrees, no_part, more_parts, ShapeTree, fork, loop, switch, land, overlapped, SideTree, no_side, side, ArmTrees, no_arm, more_arms}
use Rattle.flat_programs.specs.Machine.States.{VariablesThere, ArraysThere}
use Rattle.flat_programs.specs.Machine.Sizes.{body_in}
use Rattle.flat_programs.specs.Machine.Rest.{memory_dims}
use Rattle.ir_layout.specs.Nodes.{NodeTree, plain, looped, node_of}
use Rattle.ir_layout.specs.Sizes.{sequence_size, side_size, parts_size, arms_size}
use Rattle.ir_layout.specs.Layout.{Ahead, finish, onto, tested, Around, laid, laid_parts, laid_shape, laid_side, laid_arms, laid_block, before_parts, ahead_of_parts, behind_shape, in_loop, in_switch, step_start, body_start}
use Rattle.flat_programs.specs.There.{OperationsThere, BodyThere, SequenceThere, PartsThere, ShapeThere, SideThere, ArmsThere}
use Rattle.flat_programs.specs.Laws.{LayoutIsWhole}
use Rattle.flat_programs.proofs.Whole.{nowhere}

module _ (variables : ℕ) (dims : List (List ℕ)) where
  abbrev NodeThere : NodeTree → Type 0
  NodeThere (plain p b e) = BodyThere variables dims b.ops b.outs
  NodeThere (looped p b next) = BodyThere variables dims b.ops b.outs

  abbrev NodesThere : List NodeTree → Type 0
  NodesThere [] = Unit {0}
  NodesThere (x ∷ xs) = NodeThere x × NodesThere xs

  both : (xs ys : List NodeTree) → NodesThere xs → NodesThere ys → NodesThere (xs ++ ys)
  both [] ys h g = g
  both (x ∷ xs) ys h g = (h.0, both xs ys h.1 g)

  -- ---- trees

  mutual
    sequence_there : (around : Around) (ahead : Ahead) (place : ℕ) (s : SequenceTree) → SequenceThere variables dims s → NodesThere (laid around ahead place s)
    sequence_there around ahead place (sequence first rest) h = (h.0, parts_there around ahead (place + 1) rest h.1)

    parts_there : (around : Around) (ahead : Ahead) (place : ℕ) (parts : PartTrees) → PartsThere variables dims parts → NodesThere (laid_parts around ahead place parts)
    parts_there around ahead place no_part h = tt
    parts_there around ahead place (more_parts shape after rest) h =
        let q = behind_shape place shape + 1 in
        both (laid_shape (before_parts q rest around) place shape) (laid_block (before_parts q rest around) (ahead_of_parts q rest ahead) after ∷ laid_parts around ahead q rest)
        (shape_there (before_parts q rest around) place shape h.0) (h.1, parts_there around ahead q rest h.2)

    shape_there : (around : Around) (place : ℕ) (shape : ShapeTree) → ShapeThere variables dims shape → NodesThere (laid_shape around place shape)
    shape_there around place (fork yes_ no_ convertible) h =
        let after = place + (side_size yes_ + side_size no_) in
        both (laid_side around after place yes_) (laid_side around after (place + side_size yes_) no_) (side_there around after place yes_ h.0) (side_there around after (place + side_size yes_) no_ h.1)
    shape_there around place (loop post test body step eligible) h =
        let after = place + (sequence_size test + (sequence_size body + side_size step)) in
        let again = step_start place test body step in
        let inner = in_loop after again around in
        let second = laid inner (onto again) (body_start place test) body in
        let third = laid_side inner place (body_start place test + sequence_size body) step in
        both (laid inner (tested (body_start place test) after) place test) (second ++ third) (sequence_there inner (tested (body_start place test) after) place test h.0)
        (both second third (sequence_there inner (onto again) (body_start place test) body h.1) (side_there inner place (body_start place test + sequence_size body) step h.2))
    shape_there around place (switch dead targets other arms) h =
        let inner = in_switch (place + (parts_size dead + arms_size arms)) around in
        both (laid_parts inner (onto (place + parts_size dead)) place dead) (laid_arms inner (place + parts_size dead) arms) (parts_there inner (onto (place + parts_size dead)) place dead h.0) (arms_there inner (place + parts_size dead) arms h.1)
    shape_there around place (land number) h = tt
    shape_there around place (overlapped p b) h = (h, tt)

    side_there : (around : Around) (after place : ℕ) (s : SideTree) → SideThere variables dims s → NodesThere (laid_side around after place s)
    side_there around after place no_side h = tt
    side_there around after place (side blocks) h = sequence_there around (onto after) place blocks h

    arms_there : (around : Around) (place : ℕ) (arms : ArmTrees) → ArmsThere variables dims arms → NodesThere (laid_arms around place arms)
    arms_there around place no_arm h = tt
    arms_there around place (more_arms first rest) h =
        let next = place + sequence_size first in
        both (laid around (onto next) place first) (laid_arms around next rest) (sequence_there around (onto next) place first h.0) (arms_there around next rest h.1)

  -- ---- the code's nodes

  operations_there : (ops : List (Op Untimed)) → OperationsThere variables dims (map op_of ops) → ArraysThere ops dims
  operations_there [] h = tt
  operations_there (op ∷ ops) h = (h.0, operations_there ops h.1)

  abbrev It : Option (Node Untimed) → Type 0
  It None = Unit {0}
  It (Some it) = VariablesThere (body_in it).outs.items variables × ArraysThere (body_in it).ops.items dims

  node_there : (it : Node Untimed) → NodeThere (node_of it) → It (Some it)
  node_there (node.Plain block) h = (h.0, operations_there block.body.ops.items h.1)
  node_there (node.Looped region) h = (h.0, operations_there region.body.ops.items h.1)

  nodes_there : (ns : List (Node Untimed)) (i : ℕ) → NodesThere (map node_of ns) → It (slice_get ns i)
  nodes_there [] i h = tt
  nodes_there (x ∷ xs) zero h = node_there x h.0
  nodes_there (x ∷ xs) (suc i) h = nodes_there xs i h.1

pub layout_whole : LayoutIsWhole
layout_whole cfg blocks returned nodes there kept params =
    let variables = length cfg.frame.variables.items in
    let dims = memory_dims cfg in
    let all = subst (NodesThere variables dims) (sym nodes) (sequence_there variables dims (nowhere returned) finish 0 blocks there) in
    let at = λ (i : ℕ) (it : Node Untimed) (e : slice_get cfg.nodes.items i ≡ Some it). subst (It variables dims) e (nodes_there variables dims cfg.nodes.items i all) in
    record { outs = λ i it e. (at i it e).0; arrays = λ i it e. (at i it e).1; kept = kept; params = params }
