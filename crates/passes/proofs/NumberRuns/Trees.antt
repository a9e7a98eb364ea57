-- What holds of each block, holds of the tree.
use Rattle.std.proofs.Common.{◌≡◌, ℕ, zero, suc, Bool, ◌||◌, refl}
use Rattle.std.specs.Prelude.{◌==◌, if◌then◌else◌}
use Rattle.hls_base.specs.Steps.{Ran, goes, then_}
use Rattle.ir_core.specs.Bodies.{Shapes, Words}
use Rattle.ir_core.specs.Trees.{BlockTree, SequenceTree, sequence, PartTrees, no_part, more_parts, ShapeTree, fork, loop, switch, land, overlapped, SideTree, no_side, side, ArmTrees, no_arm, more_arms}
use Rattle.ir_core.specs.TreeRuns.{Way, on, taken, cased, broke, continued, left, repeat, way_behind, is_taken, test_first, test_last, arm_target, behind_switch, cases_of, block_run, behind_shape, next_arm, from_target, sequence_run, parts_run, shape_run, side_run, from_arm}
use Rattle.passes.specs.Numbering.{Scope, numbered_block, numbered_sequence, numbered_parts, numbered_shape, numbered_side, numbered_arms}
use Rattle.passes.specs.NumberRuns.Ordered.{BlockIsOrdered, IsOrdered, PartsAreOrdered, ShapeIsOrdered, SideIsOrdered, ArmsAreOrdered}

module _ (shapes : Shapes) where
  abbrev pub scope : Bool → Scope
  scope apart = record { widths = shapes.widths; apart = apart }

  module _ (block_same : (a : Bool) (b : BlockTree) → BlockIsOrdered b → (t : Words) (n : ℕ) → block_run shapes (numbered_block (scope a) b) t n ≡ block_run shapes b t n) where
    abbrev Rest : Type 0
    Rest = Way → Words → ℕ → Ran Words Way

    then_same : (a : Bool) (b : BlockTree) → BlockIsOrdered b → (f g : Rest) → ((w : Way) (t : Words) (n : ℕ) → f w t n ≡ g w t n) → (t : Words) (n : ℕ)
        → then_ (block_run shapes (numbered_block (scope a) b) t n) (λ w t1 n1. f w t1 n1) ≡ then_ (block_run shapes b t n) (λ w t1 n1. g w t1 n1)
    then_same a b o f g h t n = λ i. then_ (block_same a b o t n i) (λ w t1 n1. h w t1 n1 i)

    behind_same : (a : Bool) (b : BlockTree) → BlockIsOrdered b → (f g : Rest) → ((w : Way) (t : Words) (n : ℕ) → f w t n ≡ g w t n) → (w : Way) (t : Words) (n : ℕ)
        → behind_shape shapes (numbered_block (scope a) b) (λ w1 t1 n1. f w1 t1 n1) w t n ≡ behind_shape shapes b (λ w1 t1 n1. g w1 t1 n1) w t n
    behind_same a b o f g h on t n = then_same a b o f g h t n
    behind_same a b o f g h (taken test) t n = h (taken test) t n
    behind_same a b o f g h (cased c) t n = h (cased c) t n
    behind_same a b o f g h broke t n = h broke t n
    behind_same a b o f g h continued t n = h continued t n
    behind_same a b o f g h (left number) t n = h (left number) t n

    mutual
      pub sequence_same : (a : Bool) (s : SequenceTree) → IsOrdered s → (t : Words) (n : ℕ) → sequence_run shapes (numbered_sequence (scope a) s) t n ≡ sequence_run shapes s t n
      sequence_same a (sequence first rest) o t n =
          then_same a first o.0 (parts_run shapes (numbered_parts (scope a) rest)) (parts_run shapes rest) (λ w t1 n1. parts_same a rest o.1 w t1 n1) t n

      parts_same : (a : Bool) (p : PartTrees) → PartsAreOrdered p → (w : Way) (t : Words) (n : ℕ) → parts_run shapes (numbered_parts (scope a) p) w t n ≡ parts_run shapes p w t n
      parts_same a no_part o w t n = refl
      parts_same a (more_parts shape after rest) o broke t n = refl
      parts_same a (more_parts shape after rest) o continued t n = refl
      parts_same a (more_parts (land other) after rest) o (left number) t n = λ i.
          if number.0 == other.0 then then_same a after o.1 (parts_run shapes (numbered_parts (scope a) rest)) (parts_run shapes rest) (λ w t1 n1. parts_same a rest o.2 w t1 n1) t n i
          else parts_same a rest o.2 (left number) t n i
      parts_same a (more_parts (fork yes_ no_ convertible) after rest) o (left number) t n = parts_same a rest o.2 (left number) t n
      parts_same a (more_parts (loop post test body step eligible) after rest) o (left number) t n = parts_same a rest o.2 (left number) t n
      parts_same a (more_parts (switch dead targets other arms) after rest) o (left number) t n = parts_same a rest o.2 (left number) t n
      parts_same a (more_parts (overlapped point body) after rest) o (left number) t n = parts_same a rest o.2 (left number) t n
      parts_same a (more_parts shape after rest) o on t n = λ i. then_ (shape_same a shape o.0 on t n i)
          (λ w t1 n1. behind_same a after o.1 (parts_run shapes (numbered_parts (scope a) rest)) (parts_run shapes rest) (λ w2 t2 n2. parts_same a rest o.2 w2 t2 n2) w t1 n1 i)
      parts_same a (more_parts shape after rest) o (taken test) t n = λ i. then_ (shape_same a shape o.0 (taken test) t n i)
          (λ w t1 n1. behind_same a after o.1 (parts_run shapes (numbered_parts (scope a) rest)) (parts_run shapes rest) (λ w2 t2 n2. parts_same a rest o.2 w2 t2 n2) w t1 n1 i)
      parts_same a (more_parts shape after rest) o (cased c) t n = λ i. then_ (shape_same a shape o.0 (cased c) t n i)
          (λ w t1 n1. behind_same a after o.1 (parts_run shapes (numbered_parts (scope a) rest)) (parts_run shapes rest) (λ w2 t2 n2. parts_same a rest o.2 w2 t2 n2) w t1 n1 i)

      shape_same : (a : Bool) (p : ShapeTree) → ShapeIsOrdered p → (w : Way) (t : Words) (n : ℕ) → shape_run shapes (numbered_shape (scope a) p) w t n ≡ shape_run shapes p w t n
      shape_same a (fork yes_ no_ convertible) o w t n = λ i. if is_taken w then side_same a yes_ o.0 t n i else side_same a no_ o.1 t n i
      shape_same a (loop post test body step eligible) o w t n =
          let test_path : sequence_run shapes (numbered_sequence (scope (a || eligible)) test) ≡ sequence_run shapes test = λ i t1 n1. sequence_same (a || eligible) test o.0 t1 n1 i in
          let body_path : sequence_run shapes (numbered_sequence (scope (a || eligible)) body) ≡ sequence_run shapes body = λ i t1 n1. sequence_same (a || eligible) body o.1 t1 n1 i in
          let step_path : side_run shapes (numbered_side (scope (a || eligible)) step) ≡ side_run shapes step = λ i t1 n1. side_same (a || eligible) step o.2 t1 n1 i in
          λ i. then_ (repeat n (if post then test_last (test_path i) (body_path i) else test_first (test_path i) (body_path i) (step_path i)) t n) (λ u t1 n1. goes (way_behind u) t1 n1)
      shape_same a (switch dead targets other arms) o w t n = λ i.
          then_ (from_target (arm_target targets other (cases_of w)) (λ j t1 n1. arm_same a arms o j t1 n1 i) t n) (λ w1 t1 n1. goes (behind_switch w1) t1 n1)
      shape_same a (land number) o w t n = refl
      shape_same a (overlapped point body) o w t n = refl

      side_same : (a : Bool) (p : SideTree) → SideIsOrdered p → (t : Words) (n : ℕ) → side_run shapes (numbered_side (scope a) p) t n ≡ side_run shapes p t n
      side_same a no_side o t n = refl
      side_same a (side blocks) o t n = sequence_same a blocks o t n

      arm_same : (a : Bool) (p : ArmTrees) → ArmsAreOrdered p → (j : ℕ) (t : Words) (n : ℕ) → from_arm shapes (numbered_arms (scope a) p) j t n ≡ from_arm shapes p j t n
      arm_same a no_arm o j t n = refl
      arm_same a (more_arms first rest) o zero t n = λ i.
          then_ (sequence_same a first o.0 t n i) (λ w t1 n1. next_arm (λ t2 n2. arm_same a rest o.1 zero t2 n2 i) w t1 n1)
      arm_same a (more_arms first rest) o (suc j) t n = arm_same a rest o.1 j t n
