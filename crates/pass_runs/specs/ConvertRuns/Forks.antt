-- Which forks are merged and which loops are overlapped in trees of the form that lowering gives.
use Rattle.std.specs.Prelude.{◌≡◌, true, false}
use Rattle.ir_core.specs.declared.body.Operand.{Operand}
use Rattle.ir_core.specs.Trees.{ExitTree, next, branch, BlockTree, SequenceTree, sequence, PartTrees, no_part, more_parts, ShapeTree, fork, loop, SideTree, no_side, side}
use Rattle.passes.specs.Conversion.Merging.{is_only, first_of, opened}
use Rattle.passes.specs.Conversion.Overlapping.{is_test, overlapping}
use Rattle.passes.specs.Conversion.{Scope, converted_sequence, converted_shape}

-- Blocks with convertible forks between them, each behind a block that ends by a test, and the last one leads on.
abbrev mutual
  pub HoldsForks : SequenceTree → Type 0
  HoldsForks (sequence first rest) = ForksBehind first.exit rest

  pub ForksBehind : ExitTree → PartTrees → Type 0
  ForksBehind exit no_part = exit ≡ next
  ForksBehind exit (more_parts shape after rest) = ((test : Operand) × (exit ≡ branch test)) × IsConvertible shape × ForksBehind after.exit rest

  pub IsConvertible : ShapeTree → Type 0
  IsConvertible (fork yes_ no_ convertible) = (convertible ≡ true) × SideHoldsForks yes_ × SideHoldsForks no_
  IsConvertible shape = ⊥

  pub SideHoldsForks : SideTree → Type 0
  SideHoldsForks no_side = Unit {0}
  SideHoldsForks (side blocks) = HoldsForks blocks

-- They become one block.
abbrev pub ForksAreMerged : Type 0
ForksAreMerged = (scope : Scope) (blocks : SequenceTree) → HoldsForks blocks → is_only (converted_sequence scope blocks) ≡ true

-- An eligible loop whose test is one block alone, of which `is_test` holds, and whose body is so, is overlapped.
abbrev pub LoopsAreOverlapped : Type 0
LoopsAreOverlapped = (scope : Scope) (head : BlockTree) (test : Operand) (body : SequenceTree) → scope.loops ≡ true → head.exit ≡ branch test → is_test head test ≡ true → HoldsForks body
    → converted_shape scope (loop false (sequence head no_part) body no_side true) ≡ overlapping scope.widths test (opened head) (first_of (converted_sequence scope body))
