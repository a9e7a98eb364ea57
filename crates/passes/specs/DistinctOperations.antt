-- Numbered blocks have no two operations that do the same.
use Rattle.std.specs.Prelude.{◌≡◌, ℕ, ◌<◌, true, List, take, slice_get, Some, None}
use Rattle.ir_core.specs.Bodies.{OpTree}
use Rattle.ir_core.specs.Trees.{BlockTree, SequenceTree, sequence, PartTrees, no_part, more_parts, ShapeTree, fork, loop, switch, land, overlapped, SideTree, no_side, side, ArmTrees, no_arm, more_arms}
use Rattle.passes.specs.Numbering.{Scope, is_common, makes_out, in_loop, numbered_block, numbered_sequence}

-- Two operations without a guard, other than loads and stores, of the same kind, sign and width, on the same operands; such ones have at most three.
pub record DoTheSame (x y : OpTree) : Type 0 where
  pub first_guard : x.guard ≡ None
  pub second_guard : y.guard ≡ None
  pub common : is_common x.kind ≡ true
  pub kind : x.kind ≡ y.kind
  pub signed : x.signed ≡ y.signed
  pub bits : x.bits ≡ y.bits
  pub operands : take 3 x.args ≡ take 3 y.args

-- The operations of these two numbers do the same.
pub record AreTwins (ops : List OpTree) (i j : ℕ) (x y : OpTree) : Type 0 where
  pub before : i < j
  pub first : slice_get ops i ≡ Some x
  pub second : slice_get ops j ≡ Some y
  pub same : DoTheSame x y

-- Two operations do the same only in a loop that may be overlapped, and only where each makes an out of the block.
abbrev pub HasNoTwins : Scope → BlockTree → Type 0
HasNoTwins scope b = (i j : ℕ) (x y : OpTree) → AreTwins b.ops i j x y → (scope.apart ≡ true) × (makes_out b.outs i ≡ true) × (makes_out b.outs j ≡ true)

-- No block of the tree has twins; of loops that are overlapped already nothing is said.
abbrev mutual
  pub TreeHasNoTwins : Scope → SequenceTree → Type 0
  TreeHasNoTwins scope (sequence first rest) = HasNoTwins scope first × PartsHaveNoTwins scope rest

  pub PartsHaveNoTwins : Scope → PartTrees → Type 0
  PartsHaveNoTwins scope no_part = Unit {0}
  PartsHaveNoTwins scope (more_parts shape after rest) = ShapeHasNoTwins scope shape × HasNoTwins scope after × PartsHaveNoTwins scope rest

  pub ShapeHasNoTwins : Scope → ShapeTree → Type 0
  ShapeHasNoTwins scope (fork yes_ no_ convertible) = SideHasNoTwins scope yes_ × SideHasNoTwins scope no_
  ShapeHasNoTwins scope (loop post test body step eligible) =
      TreeHasNoTwins (in_loop scope eligible) test × TreeHasNoTwins (in_loop scope eligible) body × SideHasNoTwins (in_loop scope eligible) step
  ShapeHasNoTwins scope (switch dead targets other arms) = PartsHaveNoTwins scope dead × ArmsHaveNoTwins scope arms
  ShapeHasNoTwins scope (land number) = Unit {0}
  ShapeHasNoTwins scope (overlapped point body) = Unit {0}

  pub SideHasNoTwins : Scope → SideTree → Type 0
  SideHasNoTwins scope no_side = Unit {0}
  SideHasNoTwins scope (side blocks) = TreeHasNoTwins scope blocks

  pub ArmsHaveNoTwins : Scope → ArmTrees → Type 0
  ArmsHaveNoTwins scope no_arm = Unit {0}
  ArmsHaveNoTwins scope (more_arms first rest) = TreeHasNoTwins scope first × ArmsHaveNoTwins scope rest

abbrev pub NumberedBlocksHaveNoTwins : Type 0
NumberedBlocksHaveNoTwins = (scope : Scope) (b : BlockTree) → HasNoTwins scope (numbered_block scope b)

abbrev pub NumberedTreesHaveNoTwins : Type 0
NumberedTreesHaveNoTwins = (scope : Scope) (blocks : SequenceTree) → TreeHasNoTwins scope (numbered_sequence scope blocks)
