-- How many operations conversion adds to a tree: for each fork that is merged no more than are counted of it.
use Rattle.std.proofs.Common.{◌≡◌, ◌≤◌, ℕ, ◌+◌, Bool, true, false, ◌&&◌, refl, arith, List, Option, Some, None}
use Rattle.std.specs.Prelude.{if◌then◌else◌}
use Rattle.ir_core.specs.declared.body.Operand.{Operand}
use Rattle.ir_core.specs.Trees.{BlockTree, SequenceTree, sequence, PartTrees, no_part, more_parts, ShapeTree, fork, loop, switch, land, overlapped, SideTree, no_side, side, ArmTrees, no_arm, more_arms}
use Rattle.passes.specs.Conversion.Merging.{Branches, test_of, is_only_side, first_block, forked, branches_by, branches_of, opened, merged, joined}
use Rattle.passes.specs.Conversion.Overlapping.{loop_by, chosen_test}
use Rattle.passes.specs.Conversion.{Scope, going_on, behind, converted_sequence, converted_behind, converted_parts, converted_shape, converted_side, converted_arms}
use Rattle.passes.specs.Totals.{operations, sequence_total, parts_total, shape_total, side_total, arms_total}
use Rattle.passes.specs.OperationCount.Forks.{merging_adds, sequence_additions, parts_additions, shape_additions, side_additions, arms_additions}
use Rattle.program_sizes.specs.ConvertedOperations.{ConvertedOperationsAreBounded}
use Rattle.program_sizes.proofs.ConvertedOperations.Demands.{demands, side_demands}
use Rattle.program_sizes.proofs.ConvertedOperations.Merged.{of_option, merged_size, joinable_operations}
use Rattle.program_sizes.proofs.ConvertedOperations.Smaller.{side_first, branches_total, branches_fit, before_total, loop_total, demands_less, settings_less}

-- ---- forks that are merged

-- what merging these branches adds
abbrev merged_cost : Option Branches → ℕ
merged_cost None = 0
merged_cost (Some f) = of_option demands f.yes_ + of_option demands f.no_ + 2

-- what the forks within a shape add
abbrev inner_additions : ShapeTree → ℕ
inner_additions (fork yes_ no_ convertible) = side_additions yes_ + side_additions no_
inner_additions shape = shape_additions shape

-- the block of a side that is converted
side_cost : (scope : Scope) (s : SideTree) → of_option demands (first_block (converted_side scope s)) ≤ side_total demands s
side_cost scope s = let one = side_first demands (converted_side scope s) in let two = demands_less scope s in omega (arith, one, two)

merging_cost : (scope : Scope) (yes_ no_ : SideTree) → of_option demands (first_block (converted_side scope yes_)) + of_option demands (first_block (converted_side scope no_)) + 2 ≤ merging_adds yes_ no_
merging_cost scope yes_ no_ =
    let one = side_cost scope yes_ in
    let two = side_cost scope no_ in
    let three = side_demands yes_ in
    let four = side_demands no_ in
    omega (arith, one, two, three, four)

forked_cost : (scope : Scope) (test : Operand) (yes_ no_ : SideTree) (convertible : Bool)
    → merged_cost (forked test (converted_side scope yes_) (converted_side scope no_) convertible) ≤ (if convertible then merging_adds yes_ no_ else 0)
forked_cost scope test yes_ no_ false = omega arith
forked_cost scope test yes_ no_ true = by (is_only_side y && is_only_side n) where
  y : SideTree
  y = converted_side scope yes_

  n : SideTree
  n = converted_side scope no_

  by : (only : Bool) → merged_cost (if only then Some (record { test = test; yes_ = first_block y; no_ = first_block n }) else None) ≤ merging_adds yes_ no_
  by true = merging_cost scope yes_ no_
  by false = omega arith

fork_cost : (scope : Scope) (test : Option Operand) (yes_ no_ : SideTree) (convertible : Bool)
    → merged_cost (branches_by test (fork (converted_side scope yes_) (converted_side scope no_) convertible)) ≤ (if convertible then merging_adds yes_ no_ else 0)
fork_cost scope None yes_ no_ convertible = omega arith
fork_cost scope (Some test) yes_ no_ convertible = forked_cost scope test yes_ no_ convertible

loop_cost : (found : Option Operand) (widths : List ℕ) (x : Option Operand) (post : Bool) (test body : SequenceTree) (step : SideTree) → merged_cost (branches_by found (loop_by widths x post test body step)) ≡ 0
loop_cost None widths x post test body step = refl
loop_cost (Some found) widths None post test body step = refl
loop_cost (Some found) widths (Some known) post test body step = refl

shape_cost : (scope : Scope) (test : Option Operand) (shape : ShapeTree) → merged_cost (branches_by test (converted_shape scope shape)) + inner_additions shape ≤ shape_additions shape
shape_cost scope test (fork yes_ no_ convertible) = let one = fork_cost scope test yes_ no_ convertible in omega (arith, one)
shape_cost scope test (loop post t body step eligible) =
    let t' = converted_sequence scope t in
    let b' = converted_sequence scope body in
    let s' = converted_side scope step in
    let one = loop_cost test scope.widths (chosen_test (eligible && scope.loops) post t' b' s') post t' b' s' in
    omega (arith, one)
shape_cost scope None (switch dead targets other arms) = omega arith
shape_cost scope (Some test) (switch dead targets other arms) = omega arith
shape_cost scope None (land number) = omega arith
shape_cost scope (Some test) (land number) = omega arith
shape_cost scope None (overlapped point body) = omega arith
shape_cost scope (Some test) (overlapped point body) = omega arith

inner_less : (shape : ShapeTree) → inner_additions shape ≤ shape_additions shape
inner_less (fork yes_ no_ convertible) = omega arith
inner_less (loop post test body step eligible) = omega arith
inner_less (switch dead targets other arms) = omega arith
inner_less (land number) = omega arith
inner_less (overlapped point body) = omega arith

-- ---- operations

module _ (scope : Scope) where
  behind_grows : (b : BlockTree) (shape : ShapeTree) (after : BlockTree) (rest : PartTrees) (x : Option Branches) → branches_total operations x ≤ shape_total operations shape
      → ((b1 : BlockTree) → sequence_total operations (converted_behind scope b1 rest) ≤ operations.of_block b1 + parts_total operations rest + parts_additions rest)
      → sequence_total operations (behind b shape x (converted_behind scope (going_on scope.widths b x after) rest))
      ≤ operations.of_block b + (shape_total operations shape + operations.of_block after + parts_total operations rest) + (merged_cost x + parts_additions rest)
  behind_grows b shape after rest None fits further =
      let one = before_total operations shape (converted_behind scope (opened after) rest) in
      let two = further (opened after) in
      omega (arith, one, two)
  behind_grows b shape after rest (Some f) fits further =
      let c = merged scope.widths b f in
      let m = merged_size scope.widths b f in
      let one = m.ops in
      let two = joinable_operations.joining scope.widths c after in
      let three = further (joined scope.widths c after) in
      omega (arith, fits, one, two, three)

  mutual
    sequence_grows : (s : SequenceTree) → sequence_total operations (converted_sequence scope s) ≤ sequence_total operations s + sequence_additions s
    sequence_grows (sequence first rest) = let one = blocks_grow (opened first) rest in omega (arith, one)

    blocks_grow : (b : BlockTree) (rest : PartTrees) → sequence_total operations (converted_behind scope b rest) ≤ operations.of_block b + parts_total operations rest + parts_additions rest
    blocks_grow b no_part = omega arith
    blocks_grow b (more_parts shape after rest) =
        let c = converted_shape scope shape in
        let one = shape_grows shape in
        let two = behind_grows b c after rest (branches_of b.exit c) (branches_fit operations b.exit c) (λ b1. blocks_grow b1 rest) in
        let three = shape_cost scope (test_of b.exit) shape in
        omega (arith, one, two, three)

    parts_grow : (p : PartTrees) → parts_total operations (converted_parts scope p) ≤ parts_total operations p + parts_additions p
    parts_grow no_part = omega arith
    parts_grow (more_parts shape after rest) =
        let one = shape_grows shape in
        let two = before_total operations (converted_shape scope shape) (converted_behind scope (opened after) rest) in
        let three = blocks_grow (opened after) rest in
        let four = inner_less shape in
        omega (arith, one, two, three, four)

    shape_grows : (shape : ShapeTree) → shape_total operations (converted_shape scope shape) ≤ shape_total operations shape + inner_additions shape
    shape_grows (fork yes_ no_ convertible) = let one = side_grows yes_ in let two = side_grows no_ in omega (arith, one, two)
    shape_grows (loop post test body step eligible) =
        let t = converted_sequence scope test in
        let b = converted_sequence scope body in
        let s = converted_side scope step in
        let one = loop_total operations joinable_operations scope.widths (chosen_test (eligible && scope.loops) post t b s) post t b s in
        let two = sequence_grows test in
        let three = sequence_grows body in
        let four = side_grows step in
        omega (arith, one, two, three, four)
    shape_grows (switch dead targets other arms) = let one = parts_grow dead in let two = arms_grow arms in omega (arith, one, two)
    shape_grows (land number) = omega arith
    shape_grows (overlapped point body) = omega arith

    side_grows : (s : SideTree) → side_total operations (converted_side scope s) ≤ side_total operations s + side_additions s
    side_grows no_side = omega arith
    side_grows (side blocks) = sequence_grows blocks

    arms_grow : (p : ArmTrees) → arms_total operations (converted_arms scope p) ≤ arms_total operations p + arms_additions p
    arms_grow no_arm = omega arith
    arms_grow (more_arms first rest) = let one = sequence_grows first in let two = arms_grow rest in omega (arith, one, two)

pub converted_bounded : ConvertedOperationsAreBounded
converted_bounded scope s = record { operations = sequence_grows scope s; settings = settings_less scope s }
