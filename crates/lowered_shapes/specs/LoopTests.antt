-- What is known of the block of a loop's test.
pub mod Examples
use Rattle.std.specs.Prelude.{◌≡◌, ◌⊎◌, ◌≤◌, ℕ, true, [], slice_get, Some, None}
use Rattle.hls_base.specs.declared.point.Point.{Point}
use Rattle.pieces.specs.Trees.{PureTree}
use Rattle.ir_core.specs.declared.body.OpKind.TheVariants as o
use Rattle.ir_core.specs.declared.body.Operand.{Operand}
use Rattle.ir_core.specs.Bodies.{OpTree}
use Rattle.ir_core.specs.Trees.{branch, BlockTree}
use Rattle.ir_core.specs.TreeRuns.{tested_by}
use Rattle.passes.specs.Lowering.Blocks.{begun, ends_by_test}
use Rattle.passes.specs.Numbering.{Scope, numbered_block}
use Rattle.passes.specs.Conversion.Overlapping.{is_test}

-- the block of a test, once it is numbered
abbrev pub test_block : Scope → PureTree → Point → BlockTree
test_block scope test point = numbered_block scope (ends_by_test test (begun point))

-- It ends by a test, sets nothing, and behind the operation that makes the test no other one may be undefined or stores.
abbrev pub NumberedTestsStand : Type 0
NumberedTestsStand = (scope : Scope) (test : PureTree) (point : Point) → (x : Operand) × ((test_block scope test point).exit ≡ branch x) × (is_test (test_block scope test point) x ≡ true)

-- It negates a bit or combines two of them, and C always gives it a value.
pub record MakesBit (k : OpTree) : Type 0 where
  pub kind : (k.kind ≡ o.Not) ⊎ (k.kind ≡ o.And)
  pub bits : k.bits ≡ 1
  pub guard : k.guard ≡ None
  pub flag : k.flag ≡ None

-- The block ends by a test and sets nothing, and the operations behind the one that makes the test only make bits.
abbrev pub OnlyBitsFollowTests : Type 0
OnlyBitsFollowTests = (scope : Scope) (test : PureTree) (point : Point)
    → (x : Operand) × ((test_block scope test point).exit ≡ branch x) × ((test_block scope test point).outs ≡ [])
    × ((i : ℕ) (k : OpTree) → tested_by x.value ≤ i → slice_get (test_block scope test point).ops i ≡ Some k → MakesBit k)
