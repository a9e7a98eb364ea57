-- Nodes begin at the points of blocks.
use Rattle.std.proofs.Common.{◌≡◌, ◌∙◌, ℕ, ◌+◌, refl, ap, ap₂, List, [], ◌∷◌, ◌++◌, map, None}
use Rattle.std.proofs.lemmas.List.{map-append}
use Rattle.hls_base.specs.declared.point.Point.{Point}
use Rattle.ir_core.specs.Trees.{SequenceTree, sequence, PartTrees, no_part, more_parts, ShapeTree, fork, loop, switch, land, overlapped, SideTree, no_side, side, ArmTrees, no_arm, more_arms}
use Rattle.ir_layout.specs.Nodes.{NodeTree}
use Rattle.ir_layout.specs.Layout.{Ahead, finish, Around, laid, laid_parts, laid_shape, laid_side, laid_arms}
use Rattle.program_sizes.specs.KeptNodes.Seen.{seen}
use Rattle.program_sizes.specs.KeptNodes.Points.{block_points, parts_points, shape_points, side_points, arms_points}
use Rattle.program_sizes.specs.KeptNodes.{NodesBeginAtBlocks}

abbrev begins : NodeTree → Point
begins x = (seen x).point

both_begin : (xs ys : List NodeTree) (ps qs : List Point) → map begins xs ≡ ps → map begins ys ≡ qs → map begins (xs ++ ys) ≡ ps ++ qs
both_begin xs ys ps qs h k = map-append begins xs ys ∙ ap₂ (λ (u v : List Point). u ++ v) h k

mutual
  sequence_begins : (around : Around) (ahead : Ahead) (place : ℕ) (s : SequenceTree) → map begins (laid around ahead place s) ≡ block_points s
  sequence_begins around ahead place (sequence first rest) = ap (λ l. first.point ∷ l) (parts_begin around ahead (place + 1) rest)

  parts_begin : (around : Around) (ahead : Ahead) (place : ℕ) (p : PartTrees) → map begins (laid_parts around ahead place p) ≡ parts_points p
  parts_begin around ahead place no_part = refl
  parts_begin around ahead place (more_parts shape after rest) = both_begin _ _ (shape_points shape) (after.point ∷ parts_points rest) (shape_begins _ place shape) (ap (λ l. after.point ∷ l) (parts_begin around ahead _ rest))

  shape_begins : (around : Around) (place : ℕ) (shape : ShapeTree) → map begins (laid_shape around place shape) ≡ shape_points shape
  shape_begins around place (fork yes_ no_ convertible) = both_begin _ _ (side_points yes_) (side_points no_) (side_begins around _ _ yes_) (side_begins around _ _ no_)
  shape_begins around place (loop post test body step eligible) =
      both_begin _ _ (block_points test) (block_points body ++ side_points step) (sequence_begins _ _ _ test) (both_begin _ _ (block_points body) (side_points step) (sequence_begins _ _ _ body) (side_begins _ _ _ step))
  shape_begins around place (switch dead targets other arms) = both_begin _ _ (parts_points dead) (arms_points arms) (parts_begin _ _ place dead) (arms_begin _ _ arms)
  shape_begins around place (land number) = refl
  shape_begins around place (overlapped point body) = refl

  side_begins : (around : Around) (after place : ℕ) (s : SideTree) → map begins (laid_side around after place s) ≡ side_points s
  side_begins around after place no_side = refl
  side_begins around after place (side blocks) = sequence_begins around _ place blocks

  arms_begin : (around : Around) (place : ℕ) (p : ArmTrees) → map begins (laid_arms around place p) ≡ arms_points p
  arms_begin around place no_arm = refl
  arms_begin around place (more_arms first rest) = both_begin _ _ (block_points first) (arms_points rest) (sequence_begins around _ place first) (arms_begin around _ rest)

pub nodes_begin : NodesBeginAtBlocks
nodes_begin blocks returned = sequence_begins (record { leave = None; again = None; lands = []; returned = returned }) finish 0 blocks
