-- A tree becomes as many nodes as its size says.
use Rattle.std.proofs.Common.{◌≡◌, ◌+◌, ℕ, suc, refl, ap, arith, ◌∷◌, ◌++◌, length, length-append}
use Rattle.ir_core.specs.Trees.{SequenceTree, sequence, PartTrees, no_part, more_parts, ShapeTree, fork, loop, switch, land, overlapped, SideTree, no_side, side, ArmTrees, no_arm, more_arms}
use Rattle.ir_layout.specs.Sizes.{sequence_size, parts_size, shape_size, side_size, arms_size}
use Rattle.ir_layout.specs.Layout.{Ahead, onto, tested, Around, laid, laid_parts, laid_shape, laid_side, laid_arms, laid_block, before_parts, ahead_of_parts, behind_shape, in_loop, in_switch, step_start, body_start}

mutual
  pub length-laid : (around : Around) (ahead : Ahead) (place : ℕ) (s : SequenceTree) → length (laid around ahead place s) ≡ sequence_size s
  length-laid around ahead place (sequence first rest) = ap suc (length-parts around ahead (place + 1) rest)

  pub length-parts : (around : Around) (ahead : Ahead) (place : ℕ) (parts : PartTrees) → length (laid_parts around ahead place parts) ≡ parts_size parts
  length-parts around ahead place no_part = refl
  length-parts around ahead place (more_parts shape after rest) =
      let q = behind_shape place shape + 1 in
      let own = laid_shape (before_parts q rest around) place shape in
      let more = laid_block (before_parts q rest around) (ahead_of_parts q rest ahead) after ∷ laid_parts around ahead q rest in
      omega (arith, length-append own more, length-shape (before_parts q rest around) place shape, length-parts around ahead q rest)

  pub length-shape : (around : Around) (place : ℕ) (shape : ShapeTree) → length (laid_shape around place shape) ≡ shape_size shape
  length-shape around place (fork yes_ no_ convertible) =
      let after = place + (side_size yes_ + side_size no_) in
      omega (arith, length-append (laid_side around after place yes_) (laid_side around after (place + side_size yes_) no_), length-side around after place yes_, length-side around after (place + side_size yes_) no_)
  length-shape around place (loop post test body step eligible) =
      let after = place + (sequence_size test + (sequence_size body + side_size step)) in
      let again = step_start place test body step in
      let inner = in_loop after again around in
      let first = laid inner (tested (body_start place test) after) place test in
      let second = laid inner (onto again) (body_start place test) body in
      let third = laid_side inner place (body_start place test + sequence_size body) step in
      omega (
        arith,
        length-append first (second ++ third),
        length-append second third,
        length-laid inner (tested (body_start place test) after) place test,
        length-laid inner (onto again) (body_start place test) body,
        length-side inner place (body_start place test + sequence_size body) step,
      )
  length-shape around place (switch dead targets other arms) =
      let inner = in_switch (place + (parts_size dead + arms_size arms)) around in
      let first = laid_parts inner (onto (place + parts_size dead)) place dead in
      let second = laid_arms inner (place + parts_size dead) arms in
      omega (arith, length-append first second, length-parts inner (onto (place + parts_size dead)) place dead, length-arms inner (place + parts_size dead) arms)
  length-shape around place (land number) = refl
  length-shape around place (overlapped point body) = refl

  pub length-side : (around : Around) (after place : ℕ) (s : SideTree) → length (laid_side around after place s) ≡ side_size s
  length-side around after place no_side = refl
  length-side around after place (side blocks) = length-laid around (onto after) place blocks

  pub length-arms : (around : Around) (place : ℕ) (arms : ArmTrees) → length (laid_arms around place arms) ≡ arms_size arms
  length-arms around place no_arm = refl
  length-arms around place (more_arms first rest) =
      let next = place + sequence_size first in
      omega (arith, length-append (laid around (onto next) place first) (laid_arms around next rest), length-laid around (onto next) place first, length-arms around next rest)
