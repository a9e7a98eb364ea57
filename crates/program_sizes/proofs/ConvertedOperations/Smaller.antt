-- Measures by which no tree grows that is converted.
use Rattle.std.proofs.Common.{◌≡◌, ◌≤◌, ℕ, ◌+◌, Bool, true, false, ◌&&◌, arith, List, Option, Some, None}
use Rattle.std.specs.Prelude.{if◌then◌else◌}
use Rattle.ir_core.specs.declared.body.Operand.{Operand}
use Rattle.ir_core.specs.Trees.{ExitTree, BlockTree, SequenceTree, sequence, PartTrees, no_part, more_parts, ShapeTree, fork, loop, switch, land, overlapped, SideTree, no_side, side, ArmTrees, no_arm, more_arms}
use Rattle.passes.specs.Conversion.Merging.{Branches, test_of, first_of, is_only_side, first_block, forked, branches_by, branches_of, opened, merged, joined}
use Rattle.passes.specs.Conversion.Overlapping.{loop_by, chosen_test}
use Rattle.passes.specs.Conversion.{Scope, going_on, part_before, behind, converted_sequence, converted_behind, converted_parts, converted_shape, converted_side, converted_arms}
use Rattle.passes.specs.Totals.{Measure, settings, sequence_total, parts_total, shape_total, side_total, arms_total}
use Rattle.program_sizes.proofs.ConvertedOperations.Demands.{demands}
use Rattle.program_sizes.proofs.ConvertedOperations.Merged.{of_option, merged_size, IsJoinable, joinable_settings, joinable_demands}

-- ---- parts of trees

module _ (m : Measure) where
  first_total : (s : SequenceTree) → m.of_block (first_of s) ≤ sequence_total m s
  first_total (sequence b rest) = omega arith

  pub side_first : (s : SideTree) → of_option m (first_block s) ≤ side_total m s
  side_first no_side = omega arith
  side_first (side blocks) = first_total blocks

  -- the branches of a fork that is merged
  abbrev pub branches_total : Option Branches → ℕ
  branches_total None = 0
  branches_total (Some f) = of_option m f.yes_ + of_option m f.no_

  forked_total : (test : Operand) (yes_ no_ : SideTree) (convertible : Bool) → branches_total (forked test yes_ no_ convertible) ≤ side_total m yes_ + side_total m no_
  forked_total test yes_ no_ convertible = by (convertible && (is_only_side yes_ && is_only_side no_)) where
    by : (merges : Bool) → branches_total (if merges then Some (record { test = test; yes_ = first_block yes_; no_ = first_block no_ }) else None) ≤ side_total m yes_ + side_total m no_
    by true = let one = side_first yes_ in let two = side_first no_ in omega (arith, one, two)
    by false = omega arith

  found_total : (test : Option Operand) (shape : ShapeTree) → branches_total (branches_by test shape) ≤ shape_total m shape
  found_total (Some test) (fork yes_ no_ convertible) = forked_total test yes_ no_ convertible
  found_total (Some test) (loop post t body step eligible) = omega arith
  found_total (Some test) (switch dead targets other arms) = omega arith
  found_total (Some test) (land number) = omega arith
  found_total (Some test) (overlapped point body) = omega arith
  found_total None shape = omega arith

  pub branches_fit : (exit : ExitTree) (shape : ShapeTree) → branches_total (branches_of exit shape) ≤ shape_total m shape
  branches_fit exit shape = found_total (test_of exit) shape

  pub before_total : (shape : ShapeTree) (s : SequenceTree) → parts_total m (part_before shape s) ≡ shape_total m shape + sequence_total m s
  before_total shape (sequence first rest) = omega arith

  pub loop_total : IsJoinable m → (widths : List ℕ) (x : Option Operand) (post : Bool) (test body : SequenceTree) (step : SideTree)
      → shape_total m (loop_by widths x post test body step) ≤ sequence_total m test + sequence_total m body + side_total m step
  loop_total k widths None post test body step = omega arith
  loop_total k widths (Some known) post test body step =
      let one = k.opening (first_of test) in
      let two = k.joining widths (opened (first_of test)) (first_of body) in
      let three = k.iterating known (joined widths (opened (first_of test)) (first_of body)) in
      let four = first_total test in
      let five = first_total body in
      omega (arith, one, two, three, four, five)

-- ---- measures by which no tree grows

record IsMergeable (m : Measure) : Type 0 where
  joinable : IsJoinable m
  merging : (widths : List ℕ) (b : BlockTree) (f : Branches) → m.of_block (merged widths b f) ≤ m.of_block b + of_option m f.yes_ + of_option m f.no_

module _ (m : Measure) (k : IsMergeable m) (scope : Scope) where
  behind_total : (b : BlockTree) (shape : ShapeTree) (after : BlockTree) (rest : PartTrees) (x : Option Branches) → branches_total m x ≤ shape_total m shape
      → ((b1 : BlockTree) → sequence_total m (converted_behind scope b1 rest) ≤ m.of_block b1 + parts_total m rest)
      → sequence_total m (behind b shape x (converted_behind scope (going_on scope.widths b x after) rest)) ≤ m.of_block b + (shape_total m shape + m.of_block after + parts_total m rest)
  behind_total b shape after rest None fits further =
      let one = before_total m shape (converted_behind scope (opened after) rest) in
      let two = further (opened after) in
      let three = k.joinable.opening after in
      omega (arith, one, two, three)
  behind_total b shape after rest (Some f) fits further =
      let one = k.merging scope.widths b f in
      let two = k.joinable.joining scope.widths (merged scope.widths b f) after in
      let three = further (joined scope.widths (merged scope.widths b f) after) in
      omega (arith, fits, one, two, three)

  mutual
    sequence_less : (s : SequenceTree) → sequence_total m (converted_sequence scope s) ≤ sequence_total m s
    sequence_less (sequence first rest) = let one = k.joinable.opening first in let two = behind_less (opened first) rest in omega (arith, one, two)

    behind_less : (b : BlockTree) (rest : PartTrees) → sequence_total m (converted_behind scope b rest) ≤ m.of_block b + parts_total m rest
    behind_less b no_part = omega arith
    behind_less b (more_parts shape after rest) =
        let found = branches_of b.exit (converted_shape scope shape) in
        let one = shape_less shape in
        let two = behind_total b (converted_shape scope shape) after rest found (branches_fit m b.exit (converted_shape scope shape)) (λ b1. behind_less b1 rest) in
        omega (arith, one, two)

    parts_less : (p : PartTrees) → parts_total m (converted_parts scope p) ≤ parts_total m p
    parts_less no_part = omega arith
    parts_less (more_parts shape after rest) =
        let one = shape_less shape in
        let two = before_total m (converted_shape scope shape) (converted_behind scope (opened after) rest) in
        let three = behind_less (opened after) rest in
        let four = k.joinable.opening after in
        omega (arith, one, two, three, four)

    shape_less : (shape : ShapeTree) → shape_total m (converted_shape scope shape) ≤ shape_total m shape
    shape_less (fork yes_ no_ convertible) = let one = side_less yes_ in let two = side_less no_ in omega (arith, one, two)
    shape_less (loop post test body step eligible) =
        let t = converted_sequence scope test in
        let b = converted_sequence scope body in
        let s = converted_side scope step in
        let one = loop_total m k.joinable scope.widths (chosen_test (eligible && scope.loops) post t b s) post t b s in
        let two = sequence_less test in
        let three = sequence_less body in
        let four = side_less step in
        omega (arith, one, two, three, four)
    shape_less (switch dead targets other arms) = let one = parts_less dead in let two = arms_less arms in omega (arith, one, two)
    shape_less (land number) = omega arith
    shape_less (overlapped point body) = omega arith

    side_less : (s : SideTree) → side_total m (converted_side scope s) ≤ side_total m s
    side_less no_side = omega arith
    side_less (side blocks) = sequence_less blocks

    arms_less : (p : ArmTrees) → arms_total m (converted_arms scope p) ≤ arms_total m p
    arms_less no_arm = omega arith
    arms_less (more_arms first rest) = let one = sequence_less first in let two = arms_less rest in omega (arith, one, two)

mergeable_demands : IsMergeable demands
mergeable_demands = record { joinable = joinable_demands; merging = λ widths b f. (merged_size widths b f).demand }

mergeable_settings : IsMergeable settings
mergeable_settings = record { joinable = joinable_settings; merging = λ widths b f. (merged_size widths b f).outs }

pub demands_less : (scope : Scope) (s : SideTree) → side_total demands (converted_side scope s) ≤ side_total demands s
demands_less = side_less demands mergeable_demands

pub settings_less : (scope : Scope) (s : SequenceTree) → sequence_total settings (converted_sequence scope s) ≤ sequence_total settings s
settings_less = sequence_less settings mergeable_settings
