-- Behind the operation that makes the test of a block others only make bits, and so none of them needs a guard.
use Rattle.std.proofs.Common.{◌≡◌, ◌⊎◌, inl, inr, ◌≤◌, ℕ, zero, suc, true, false, not, ◌&&◌, ◌||◌, refl, arith, List, [], ◌∷◌, length, drop, Some, is_some}
use Rattle.std.specs.Prelude.{slice_get, ◌==◌}
use Rattle.hls_base.specs.declared.point.Point.{Point}
use Rattle.pieces.specs.Trees.{PureTree}
use Rattle.ir_core.specs.declared.body.OpKind.TheVariants as o
use Rattle.ir_core.specs.declared.body.Operand.{Operand}
use Rattle.ir_core.specs.Bodies.{OpTree}
use Rattle.ir_core.specs.Trees.{BlockTree}
use Rattle.ir_core.specs.TreeRuns.{tested_by}
use Rattle.passes.specs.Lowering.Blocks.{begun, condition}
use Rattle.passes.specs.Lowering.Expressions.{emitted}
use Rattle.passes.specs.Numbering.{Scope}
use Rattle.passes.specs.Conversion.Joining.{is_store, needs_guard}
use Rattle.passes.specs.Conversion.Overlapping.{none_needs_guard, is_test}
use Rattle.lowered_shapes.specs.LoopTests.{test_block, NumberedTestsStand, MakesBit, OnlyBitsFollowTests}
use Rattle.lowered_shapes.proofs.LoopTests.Numbers.{value_of}
use Rattle.lowered_shapes.proofs.LoopTests.Heights.{height, nothing_sound}
use Rattle.lowered_shapes.proofs.LoopTests.Steps.{Follows}
use Rattle.lowered_shapes.proofs.LoopTests.Conversions.{tested_follows}
use Rattle.lowered_shapes.proofs.LoopTests.Expressions.{emitted_evaluates}

condition_follows : (scope : Scope) (test : PureTree) (point : Point) → Follows scope [] (condition test (begun point)).ops (condition test (begun point)).operand
condition_follows scope test point =
    let e = emitted [] test [] [] in
    (tested_follows scope [] e.ops e.given (emitted_evaluates scope test [] [] (nothing_sound scope) tt).follows).1

pub bits_follow : OnlyBitsFollowTests
bits_follow scope test point =
    let x = condition test (begun point) in
    let v = value_of scope x.ops x.operand in
    (v, refl, refl, (condition_follows scope test point).bits (height v) (omega arith) (λ i k le e. absurd cc))

-- ---- no guard is needed

bit_needs_none : (k : OpTree) → MakesBit k → needs_guard k ≡ false
bit_needs_none k b = by b.kind where
  by : (k.kind ≡ o.Not) ⊎ (k.kind ≡ o.And) → needs_guard k ≡ false
  by (inl e) = λ i. is_some (b.flag i) || is_store (e i)
  by (inr e) = λ i. is_some (b.flag i) || is_store (e i)

none_needs : (ops : List OpTree) → ((i : ℕ) (k : OpTree) → slice_get ops i ≡ Some k → needs_guard k ≡ false) → none_needs_guard ops ≡ true
none_needs [] h = refl
none_needs (op ∷ ops) h = λ i. not (h 0 op refl i) && none_needs ops (λ j k e. h (suc j) k e) i

none_needs_behind : (ops : List OpTree) (n : ℕ) → ((i : ℕ) (k : OpTree) → n ≤ i → slice_get ops i ≡ Some k → needs_guard k ≡ false) → none_needs_guard (drop n ops) ≡ true
none_needs_behind [] zero h = refl
none_needs_behind [] (suc n) h = refl
none_needs_behind (op ∷ ops) zero h = none_needs (op ∷ ops) (λ j k e. h j k (omega arith) e)
none_needs_behind (op ∷ ops) (suc n) h = none_needs_behind ops n (λ j k le e. h (suc j) k (omega (arith, le)) e)

stands : (b : BlockTree) (x : Operand) → b.outs ≡ [] → ((i : ℕ) (k : OpTree) → tested_by x.value ≤ i → slice_get b.ops i ≡ Some k → MakesBit k) → is_test b x ≡ true
stands b x none bits = λ i. length (none i) == 0 && none_needs_behind b.ops (tested_by x.value) (λ j k le e. bit_needs_none k (bits j k le e)) i

pub tests_stand : NumberedTestsStand
tests_stand scope test point =
    let b = bits_follow scope test point in
    (b.0, b.1, stands (test_block scope test point) b.0 b.2 b.3)
