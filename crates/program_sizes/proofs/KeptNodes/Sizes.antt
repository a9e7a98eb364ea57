-- The parts of a numbered tree become as many nodes as before.
use Rattle.std.proofs.Common.{◌≡◌, refl, arith}
use Rattle.ir_core.specs.Trees.{SequenceTree, sequence, PartTrees, no_part, more_parts, ShapeTree, fork, loop, switch, land, overlapped, SideTree, no_side, side, ArmTrees, no_arm, more_arms}
use Rattle.passes.specs.Numbering.{Scope, in_loop, numbered_sequence, numbered_parts, numbered_shape, numbered_side, numbered_arms}
use Rattle.ir_layout.specs.Sizes.{sequence_size, parts_size, shape_size, side_size, arms_size}

mutual
  pub sequence_same : (scope : Scope) (s : SequenceTree) → sequence_size (numbered_sequence scope s) ≡ sequence_size s
  sequence_same scope (sequence first rest) = let more = parts_same scope rest in omega (arith, more)

  pub parts_same : (scope : Scope) (p : PartTrees) → parts_size (numbered_parts scope p) ≡ parts_size p
  parts_same scope no_part = refl
  parts_same scope (more_parts shape after rest) = let one = shape_same scope shape in let more = parts_same scope rest in omega (arith, one, more)

  pub shape_same : (scope : Scope) (shape : ShapeTree) → shape_size (numbered_shape scope shape) ≡ shape_size shape
  shape_same scope (fork yes_ no_ convertible) = let one = side_same scope yes_ in let two = side_same scope no_ in omega (arith, one, two)
  shape_same scope (loop post test body step eligible) =
      let one = sequence_same (in_loop scope eligible) test in
      let two = sequence_same (in_loop scope eligible) body in
      let three = side_same (in_loop scope eligible) step in
      omega (arith, one, two, three)
  shape_same scope (switch dead targets other arms) = let one = parts_same scope dead in let two = arms_same scope arms in omega (arith, one, two)
  shape_same scope (land number) = refl
  shape_same scope (overlapped point body) = refl

  pub side_same : (scope : Scope) (s : SideTree) → side_size (numbered_side scope s) ≡ side_size s
  side_same scope no_side = refl
  side_same scope (side blocks) = sequence_same scope blocks

  pub arms_same : (scope : Scope) (p : ArmTrees) → arms_size (numbered_arms scope p) ≡ arms_size p
  arms_same scope no_arm = refl
  arms_same scope (more_arms first rest) = let one = sequence_same scope first in let more = arms_same scope rest in omega (arith, one, more)
