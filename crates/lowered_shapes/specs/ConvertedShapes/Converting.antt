-- Trees whose convertible forks are merged and whose eligible loops become loop nodes, and trees without convertible forks.
use Rattle.std.specs.Prelude.{◌≡◌, Bool, true, false, ◌&&◌, Option, None, is_some}
use Rattle.ir_core.specs.declared.body.Operand.{Operand}
use Rattle.ir_core.specs.Trees.{SequenceTree, sequence, PartTrees, no_part, more_parts, ShapeTree, fork, loop, switch, land, overlapped, SideTree, no_side, side, ArmTrees, no_arm, more_arms}
use Rattle.passes.specs.Conversion.Merging.{test_of, branches_by}
use Rattle.passes.specs.Conversion.{Scope, converted_shape}

abbrev pub is_loop_node : ShapeTree → Bool
is_loop_node (overlapped point body) = true
is_loop_node shape = false

-- Each convertible fork is merged into the block before it, and each eligible loop becomes a loop node where loops are overlapped.
abbrev mutual
  pub AllConvert : Scope → SequenceTree → Type 0
  AllConvert scope (sequence first rest) = PartsConvert scope (test_of first.exit) rest

  -- behind a block that ends by this test, if it does
  pub PartsConvert : Scope → Option Operand → PartTrees → Type 0
  PartsConvert scope test no_part = Unit {0}
  PartsConvert scope test (more_parts shape after rest) = ShapeConverts scope test shape × PartsConvert scope (test_of after.exit) rest

  pub ShapeConverts : Scope → Option Operand → ShapeTree → Type 0
  ShapeConverts scope test (fork yes_ no_ convertible) =
      (convertible ≡ true → is_some (branches_by test (converted_shape scope (fork yes_ no_ convertible))) ≡ true) × SideConverts scope yes_ × SideConverts scope no_
  ShapeConverts scope test (loop post first body step eligible) =
      ((eligible && scope.loops) ≡ true → is_loop_node (converted_shape scope (loop post first body step eligible)) ≡ true) × AllConvert scope first × AllConvert scope body × SideConverts scope step
  ShapeConverts scope test (switch dead targets other arms) = PartsConvert scope None dead × ArmsConvert scope arms
  ShapeConverts scope test (land number) = Unit {0}
  ShapeConverts scope test (overlapped point body) = Unit {0}

  pub SideConverts : Scope → SideTree → Type 0
  SideConverts scope no_side = Unit {0}
  SideConverts scope (side blocks) = AllConvert scope blocks

  pub ArmsConvert : Scope → ArmTrees → Type 0
  ArmsConvert scope no_arm = Unit {0}
  ArmsConvert scope (more_arms first rest) = AllConvert scope first × ArmsConvert scope rest

-- No fork is convertible.
abbrev mutual
  pub HasNoFork : SequenceTree → Type 0
  HasNoFork (sequence first rest) = PartsHaveNoFork rest

  pub PartsHaveNoFork : PartTrees → Type 0
  PartsHaveNoFork no_part = Unit {0}
  PartsHaveNoFork (more_parts shape after rest) = ShapeHasNoFork shape × PartsHaveNoFork rest

  pub ShapeHasNoFork : ShapeTree → Type 0
  ShapeHasNoFork (fork yes_ no_ convertible) = (convertible ≡ false) × SideHasNoFork yes_ × SideHasNoFork no_
  ShapeHasNoFork (loop post first body step eligible) = HasNoFork first × HasNoFork body × SideHasNoFork step
  ShapeHasNoFork (switch dead targets other arms) = PartsHaveNoFork dead × ArmsHaveNoFork arms
  ShapeHasNoFork (land number) = Unit {0}
  ShapeHasNoFork (overlapped point body) = Unit {0}

  pub SideHasNoFork : SideTree → Type 0
  SideHasNoFork no_side = Unit {0}
  SideHasNoFork (side blocks) = HasNoFork blocks

  pub ArmsHaveNoFork : ArmTrees → Type 0
  ArmsHaveNoFork no_arm = Unit {0}
  ArmsHaveNoFork (more_arms first rest) = HasNoFork first × ArmsHaveNoFork rest
