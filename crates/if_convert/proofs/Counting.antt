-- How many blocks and shapes the parts of a tree have. Each call in a pass over a tree is on fewer.
use Rattle.std.proofs.Common.{◌≡◌, ◌≤◌, ◌∙◌, ℕ, suc, ◌+◌, ap, arith, List, ◌∷◌, map}
use Rattle.ir_core.specs.declared.tree.Part.{Part}
use Rattle.ir_core.specs.declared.tree.Sequence.{Sequence}
use Rattle.ir_core.specs.declared.tree.Shape.TheFolds.{fold_out-Part}
use Rattle.ir_core.specs.Trees.{SequenceTree, sequence, PartTree, PartTrees, no_part, more_parts, ShapeTree, fork, loop, switch, land, overlapped, SideTree, no_side, side, ArmTrees, no_arm, more_arms, part_of, part_row, shape_of, block_of, sequence_of, arm_row, shape_step, part_step, sequence_step}

abbrev mutual
  pub sequence_size : SequenceTree → ℕ
  sequence_size (sequence first rest) = suc (parts_size rest)

  pub parts_size : PartTrees → ℕ
  parts_size no_part = 0
  parts_size (more_parts shape after rest) = shape_size shape + suc (parts_size rest)

  pub shape_size : ShapeTree → ℕ
  shape_size (fork yes_ no_ convertible) = side_size yes_ + side_size no_
  shape_size (loop post test body step eligible) = sequence_size test + (sequence_size body + side_size step)
  shape_size (switch dead targets other arms) = parts_size dead + arms_size arms
  shape_size (land number) = 0
  shape_size (overlapped point body) = 0

  pub side_size : SideTree → ℕ
  side_size no_side = 0
  side_size (side blocks) = sequence_size blocks

  pub arms_size : ArmTrees → ℕ
  arms_size no_arm = 0
  arms_size (more_arms first rest) = sequence_size first + arms_size rest

part_out : (p : Part) → part_of p ≡ record { shape = shape_of p.shape; after = block_of p.after }
part_out p = fold_out-Part ShapeTree PartTree SequenceTree shape_step part_step sequence_step p

-- what is left of a row behind its first part
pub fewer_parts : (p : Part) (ps items : List Part) (n : ℕ) → items ≡ p ∷ ps → parts_size (part_row (map part_of items)) ≤ n → shape_size (shape_of p.shape) + suc (parts_size (part_row (map part_of ps))) ≤ n
fewer_parts p ps items n first h =
    let e : parts_size (part_row (map part_of items)) ≡ shape_size (shape_of p.shape) + suc (parts_size (part_row (map part_of ps))) =
    ap (λ l. parts_size (part_row (map part_of l))) first ∙ ap (λ (x : PartTree). parts_size (more_parts x.shape x.after (part_row (map part_of ps)))) (part_out p) in
    omega (arith, e, h)

-- what is left of arms behind the first
pub fewer_arms : (s : Sequence) (ss items : List Sequence) (n : ℕ) → items ≡ s ∷ ss → arms_size (arm_row (map sequence_of items)) ≤ n → sequence_size (sequence_of s) + arms_size (arm_row (map sequence_of ss)) ≤ n
fewer_arms s ss items n first h =
    let e : arms_size (arm_row (map sequence_of items)) ≡ sequence_size (sequence_of s) + arms_size (arm_row (map sequence_of ss)) = ap (λ l. arms_size (arm_row (map sequence_of l))) first in
    omega (arith, e, h)
