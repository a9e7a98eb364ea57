-- What holds of the bodies of blocks, and of loops that are overlapped, holds of the bodies of all nodes that a tree becomes.
use Rattle.std.proofs.Common.{◌≡◌, ℕ, ◌+◌, sym, subst, List, [], ◌∷◌, ◌++◌, map, Option, None}
use Rattle.std.specs.List.{All}
use Rattle.std.proofs.lemmas.List.Elements.{All-nil, All-cons}
use Rattle.hls_base.specs.declared.number.VarId.{VarId}
use Rattle.ir_core.specs.declared.cfg.Cfg.{Cfg}
use Rattle.ir_core.specs.declared.cfg.Node.{Node}
use Rattle.ir_core.specs.declared.cfg.Node.TheVariants as node
use Rattle.ir_core.specs.declared.stamp.Untimed.{Untimed}
use Rattle.ir_core.specs.Trees.{BlockTree, BodyTree, body_of, SequenceTree, sequence, PartTrees, no_part, more_parts, ShapeTree, fork, loop, switch, land, overlapped, SideTree, no_side, side, ArmTrees, no_arm, more_arms}
use Rattle.ir_layout.specs.Nodes.{NodeTree, plain, looped, node_of}
use Rattle.ir_layout.specs.Sizes.{sequence_size, side_size, parts_size, arms_size}
use Rattle.ir_layout.specs.Layout.{Ahead, finish, onto, tested, Around, laid_block, ahead_of_parts, behind_shape, before_parts, in_loop, in_switch, body_start, step_start, laid, laid_parts, laid_shape, laid_side, laid_arms, laid_out}
use Rattle.program_validity.specs.Programs.{body_in}
use Rattle.sound_trees.specs.Trees.{SequenceHas, PartsHave, ShapeHas, SideHas, ArmsHave}

module _ (B : BlockTree → Type 0) (P : BodyTree → Type 0) (own : (b : BlockTree) → B b → P (record { ops = b.ops; outs = b.outs; test = None })) where
  abbrev NodeHas : NodeTree → Type 0
  NodeHas (plain point body end_) = P body
  NodeHas (looped point body next) = P body

  abbrev NodesHave : List NodeTree → Type 0
  NodesHave [] = Unit {0}
  NodesHave (n ∷ nodes) = NodeHas n × NodesHave nodes

  both_have : (xs ys : List NodeTree) → NodesHave xs → NodesHave ys → NodesHave (xs ++ ys)
  both_have [] ys h k = k
  both_have (x ∷ xs) ys h k = (h.0, both_have xs ys h.1 k)

  abbrev L : SequenceTree → SequenceTree → Type 0
  L test body = Unit {0}

  mutual
    laid_have : (around : Around) (ahead : Ahead) (place : ℕ) (s : SequenceTree) → SequenceHas B L P s → NodesHave (laid around ahead place s)
    laid_have around ahead place (sequence first rest) h = (own first h.0, parts_have around ahead (place + 1) rest h.1)

    parts_have : (around : Around) (ahead : Ahead) (place : ℕ) (p : PartTrees) → PartsHave B L P p → NodesHave (laid_parts around ahead place p)
    parts_have around ahead place no_part h = tt
    parts_have around ahead place (more_parts shape after rest) h =
        let further = behind_shape place shape + 1 in
        let inner = before_parts further rest around in
        both_have (laid_shape inner place shape) (laid_block inner (ahead_of_parts further rest ahead) after ∷ laid_parts around ahead further rest) (shape_have inner place shape h.0)
        (own after h.1, parts_have around ahead further rest h.2)

    shape_have : (around : Around) (place : ℕ) (shape : ShapeTree) → ShapeHas B L P shape → NodesHave (laid_shape around place shape)
    shape_have around place (fork yes_ no_ convertible) h =
        let after = place + (side_size yes_ + side_size no_) in
        both_have (laid_side around after place yes_) (laid_side around after (place + side_size yes_) no_) (side_have around after place yes_ h.0) (side_have around after (place + side_size yes_) no_ h.1)
    shape_have around place (loop post test body step eligible) h =
        let after = place + (sequence_size test + (sequence_size body + side_size step)) in
        let start = step_start place test body step in
        let inner = in_loop after start around in
        let second = laid inner (onto start) (body_start place test) body in
        let third = laid_side inner place (body_start place test + sequence_size body) step in
        both_have (laid inner (tested (body_start place test) after) place test) (second ++ third) (laid_have inner (tested (body_start place test) after) place test h.0)
        (both_have second third (laid_have inner (onto start) (body_start place test) body h.1) (side_have inner place (body_start place test + sequence_size body) step h.2))
    shape_have around place (switch dead targets other arms) h =
        let inner = in_switch (place + (parts_size dead + arms_size arms)) around in
        let start = place + parts_size dead in
        both_have (laid_parts inner (onto start) place dead) (laid_arms inner start arms) (parts_have inner (onto start) place dead h.0) (arms_have inner start arms h.1)
    shape_have around place (land number) h = tt
    shape_have around place (overlapped point body) h = (h, tt)

    side_have : (around : Around) (after place : ℕ) (s : SideTree) → SideHas B L P s → NodesHave (laid_side around after place s)
    side_have around after place no_side h = tt
    side_have around after place (side blocks) h = laid_have around (onto after) place blocks h

    arms_have : (around : Around) (place : ℕ) (p : ArmTrees) → ArmsHave B L P p → NodesHave (laid_arms around place p)
    arms_have around place no_arm h = tt
    arms_have around place (more_arms first rest) h =
        let further = place + sequence_size first in
        both_have (laid around (onto further) place first) (laid_arms around further rest) (laid_have around (onto further) place first h.0) (arms_have around further rest h.1)

  -- ---- the code's nodes

  node_has : (n : Node Untimed) → NodeHas (node_of n) → P (body_of (body_in n))
  node_has (node.Plain block) h = h
  node_has (node.Looped region) h = h

  nodes_have : (nodes : List (Node Untimed)) → NodesHave (map node_of nodes) → All (λ (n : Node Untimed). P (body_of (body_in n))) nodes
  nodes_have [] h = All-nil (λ (n : Node Untimed). P (body_of (body_in n)))
  nodes_have (n ∷ nodes) h = All-cons (λ (m : Node Untimed). P (body_of (body_in m))) n nodes (node_has n h.0) (nodes_have nodes h.1)

  pub program_has : (cfg : Cfg Untimed) (s : SequenceTree) (returned : Option VarId) → map node_of cfg.nodes.items ≡ laid_out s returned → SequenceHas B L P s → All (λ (n : Node Untimed). P (body_of (body_in n))) cfg.nodes.items
  program_has cfg s returned e h =
      nodes_have cfg.nodes.items (subst NodesHave (sym e) (laid_have (record { leave = None; again = None; lands = []; returned = returned }) finish 0 s h))
