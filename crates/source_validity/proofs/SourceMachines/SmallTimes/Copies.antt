-- Copies of forward bodies that have early times are early.
use Rattle.std.proofs.Common.{◌≡◌, ℕ, zero, suc, ◌+◌, ◌*◌, ◌<◌, ◌≤◌, ◌^◌, List, [], ◌∷◌, length, refl, sym, ap, subst, arith}
use Rattle.std.specs.Prelude.{slice_index, Option, Some, None, IfSome}
use Rattle.std.specs.List.{All}
use Rattle.std.proofs.lemmas.List.Elements.{All-nil, All-cons, All-head, All-tail, All-weaker}
use Rattle.ir_core.specs.declared.body.Body.{Body}
use Rattle.ir_core.specs.declared.body.Op.{Op}
use Rattle.ir_core.specs.declared.body.Operand.{Operand}
use Rattle.ir_core.specs.declared.stamp.Untimed.{Untimed}
use Rattle.ir_core.specs.declared.timed.Timed.{Timed}
use Rattle.dep_graph.specs.ForwardBodies.{IsForwardOperand, IsForwardOp, AreForwardOps, IsForwardBody}
use Rattle.unit_binding.specs.Copies.{IsTimedCopy, AreTimedCopies, IsTimedBody}
use Rattle.reg_binding.specs.SmallTimes.{IsNear, IsNearOut, IsEarlyOp, IsEarlyBody}
use Rattle.source_validity.specs.SourceMachines.SmallTimes.NearOuts.{HasNearOuts}

-- each time is within the cycles that so many nodes take one after another, without the last of them
abbrev pub AreWithin : ℕ → List ℕ → Type 0
AreWithin nodes times = (v : ℕ) → slice_index times v + 127 ≤ 127 * nodes

pub within_all : (nodes : ℕ) (times : List ℕ) → 0 < nodes → All (λ t. t + 127 ≤ 127 * nodes) times → AreWithin nodes times
within_all nodes [] some h v = (let none : slice_index [] v ≡ 0 = refl in omega (arith, none, some))
within_all nodes (t ∷ times) some h zero = All-head (λ x. x + 127 ≤ 127 * nodes) t times h
within_all nodes (t ∷ times) some h (suc v) = within_all nodes times some (All-tail (λ x. x + 127 ≤ 127 * nodes) t times h) v

-- ---- operands

near_args : (k : ℕ) (xs : List Operand) → All (IsForwardOperand k) xs → All IsNear xs
near_args k xs h = All-weaker (IsForwardOperand k) IsNear (λ x own. (let near = own.near in omega (arith, near))) xs h

near_guard : (k : ℕ) (guard : Option Operand) → IfSome guard (IsForwardOperand k) → IfSome guard IsNear
near_guard k None h = tt
near_guard k (Some x) h = (let near = h.near in omega (arith, near))

-- ---- operations

module _ (nodes : ℕ) (times units : List ℕ) (few : nodes ≤ 2 ^ 25) (within : AreWithin nodes times) where
  op_early : (test : Option Operand) (k : ℕ) (op : Op Untimed) (copy : Op Timed) → IsForwardOp test k op → IsTimedCopy op (slice_index times (k + 1)) (slice_index units k) copy → IsEarlyOp copy
  op_early test k op copy forward same =
      let time = within (k + 1) in
      let start = same.at_time in
      let bits = same.same_bits in
      let narrow = forward.narrow in
      record {
        start = omega (arith, time, start, few);
        narrow = omega (arith, bits, narrow);
        guard = subst (λ (g : Option Operand). IfSome g IsNear) (sym same.same_guard) (near_guard k op.guard forward.guard);
        args = subst (All IsNear) (sym same.same_args) (near_args k op.args.items forward.args);
      }

  ops_early : (test : Option Operand) (k : ℕ) (ops : List (Op Untimed)) (copies : List (Op Timed)) → AreForwardOps test k ops → AreTimedCopies times units k ops copies → All IsEarlyOp copies
  ops_early test k [] [] forward same = All-nil IsEarlyOp
  ops_early test k [] (c ∷ cs) forward same = absurd same
  ops_early test k (o ∷ os) [] forward same = absurd same
  ops_early test k (o ∷ os) (c ∷ cs) forward same = All-cons IsEarlyOp c cs (op_early test k o c forward.0 same.0) (ops_early test (suc k) os cs forward.1 same.1)

  copies_count : (k : ℕ) (ops : List (Op Untimed)) (copies : List (Op Timed)) → AreTimedCopies times units k ops copies → length copies ≡ length ops
  copies_count k [] [] same = refl
  copies_count k [] (c ∷ cs) same = absurd same
  copies_count k (o ∷ os) [] same = absurd same
  copies_count k (o ∷ os) (c ∷ cs) same = ap suc (copies_count (suc k) os cs same.1)

  pub body_early : (body : Body Untimed) (copy : Body Timed) → IsForwardBody body → HasNearOuts body → IsTimedBody times units body copy → IsEarlyBody copy
  body_early body copy forward near same =
      let count = copies_count 0 body.ops.items copy.ops.items same.ops in
      let small = forward.small in
      record {
        few = omega (arith, count, small);
        ops = ops_early body.test 0 body.ops.items copy.ops.items forward.ops same.ops;
        outs = subst (All IsNearOut) (sym same.outs) near.outs;
        test = subst (λ (t : Option Operand). IfSome t IsNear) (sym same.test) near.test;
      }
