-- What a branch brings with it: operations that need a guard, and variables that are set.
use Rattle.std.proofs.Common.{◌≤◌, ℕ, ◌+◌, arith, List, length}
use Rattle.std.specs.Prelude.{if◌then◌else◌}
use Rattle.std.specs.List.{count_by}
use Rattle.std.proofs.lemmas.List.Sums.{count_by-le-length}
use Rattle.ir_core.specs.Bodies.{OpTree}
use Rattle.ir_core.specs.Trees.{SequenceTree, sequence, PartTrees, no_part, more_parts, ShapeTree, fork, loop, switch, land, overlapped, SideTree, no_side, side, ArmTrees, no_arm, more_arms}
use Rattle.passes.specs.Conversion.Joining.{needs_guard}
use Rattle.passes.specs.Totals.{Measure, operations, settings, sequence_total, parts_total, shape_total, side_total, arms_total}

-- ---- operations that need a guard in a branch

abbrev pub guards_for : OpTree → ℕ
guards_for op = if needs_guard op then 1 else 0

abbrev pub guards_for_all : List OpTree → ℕ
guards_for_all = count_by needs_guard

-- ---- with the variables that are set, each of which needs a selection

abbrev pub demands : Measure
demands = record { of_block = λ b. guards_for_all b.ops + length b.outs; of_body = λ b. guards_for_all b.ops + length b.outs }

-- ---- these are no more than operations and settings

mutual
  sequence_demands : (s : SequenceTree) → sequence_total demands s ≤ sequence_total operations s + sequence_total settings s
  sequence_demands (sequence first rest) = let one = count_by-le-length needs_guard first.ops in let two = parts_demands rest in omega (arith, one, two)

  parts_demands : (p : PartTrees) → parts_total demands p ≤ parts_total operations p + parts_total settings p
  parts_demands no_part = omega arith
  parts_demands (more_parts shape after rest) =
      let one = shape_demands shape in
      let two = count_by-le-length needs_guard after.ops in
      let three = parts_demands rest in
      omega (arith, one, two, three)

  shape_demands : (shape : ShapeTree) → shape_total demands shape ≤ shape_total operations shape + shape_total settings shape
  shape_demands (fork yes_ no_ convertible) = let one = side_demands yes_ in let two = side_demands no_ in omega (arith, one, two)
  shape_demands (loop post test body step eligible) =
      let one = sequence_demands test in
      let two = sequence_demands body in
      let three = side_demands step in
      omega (arith, one, two, three)
  shape_demands (switch dead targets other arms) = let one = parts_demands dead in let two = arms_demands arms in omega (arith, one, two)
  shape_demands (land number) = omega arith
  shape_demands (overlapped point body) = let one = count_by-le-length needs_guard body.ops in omega (arith, one)

  pub side_demands : (s : SideTree) → side_total demands s ≤ side_total operations s + side_total settings s
  side_demands no_side = omega arith
  side_demands (side blocks) = sequence_demands blocks

  arms_demands : (p : ArmTrees) → arms_total demands p ≤ arms_total operations p + arms_total settings p
  arms_demands no_arm = omega arith
  arms_demands (more_arms first rest) = let one = sequence_demands first in let two = arms_demands rest in omega (arith, one, two)
