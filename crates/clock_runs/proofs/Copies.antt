-- A body with times has the operations of the body.
use Rattle.std.proofs.Common.{◌≡◌, ℕ, zero, suc, ◌+◌, ◌<◌, ◌∙◌, sym, refl, ap, ap₂, subst, List, [], ◌∷◌, map, length, get_or, Some, arith}
use Rattle.std.specs.Prelude.{slice_index, slice_get}
use Rattle.std.proofs.lemmas.List.{length-map}
use Rattle.std.proofs.lemmas.Option.{slice_get-get_or}
use Rattle.ir_core.specs.declared.body.Body.{Body}
use Rattle.ir_core.specs.declared.body.Op.{Op}
use Rattle.ir_core.specs.declared.body.Out.{Out}
use Rattle.ir_core.specs.declared.stamp.Untimed.{Untimed}
use Rattle.ir_core.specs.declared.timed.Timed.{Timed}
use Rattle.dep_graph.specs.Offsets.{nth}
use Rattle.unit_binding.specs.Copies.{IsTimedCopy, AreTimedCopies, IsTimedBody}
use Rattle.ir_core.specs.Bodies.{op_of, Shapes, Words}
use Rattle.clock_ir.specs.Flows.{TimedOp, timed_op, timed_body}
use Rattle.clock_runs.specs.Premises.{AreSoundOps}
use Rattle.clock_runs.proofs.Settings.{Setting, nothing, op_at, ops_of, count_of}
use Rattle.clock_runs.proofs.Defined.{op_of_at}
use Rattle.clock_runs.proofs.Sums.{IsCopy}
use Rattle.clock_runs.proofs.Lists.{nth_within, nth_found, nth_map}

pub copy_same : (u : Op Untimed) (time unit : ℕ) (c : Op Timed) → IsTimedCopy u time unit c → op_of c ≡ op_of u
copy_same u time unit c h = λ i. record { kind = h.same_kind i; signed = h.same_sign i; bits = h.same_bits i; args = h.same_args i; array = h.same_array i; guard = h.same_guard i; flag = h.same_flag i }

copies_same : (times units : List ℕ) (k : ℕ) (os : List (Op Untimed)) (cs : List (Op Timed)) → AreTimedCopies times units k os cs → map (λ (p : TimedOp). p.op) (map timed_op cs) ≡ map op_of os
copies_same times units k [] [] h = refl
copies_same times units k [] (c ∷ cs) h = absurd h
copies_same times units k (o ∷ os) [] h = absurd h
copies_same times units k (o ∷ os) (c ∷ cs) h = ap₂ (λ x xs. x ∷ xs) (copy_same o (slice_index times (k + 1)) (slice_index units k) c h.0) (copies_same times units (suc k) os cs h.1)

starts_same : (times units : List ℕ) (k : ℕ) (os : List (Op Untimed)) (cs : List (Op Timed)) → AreTimedCopies times units k os cs → (i : ℕ) → i < length os → (get_or (map timed_op cs) i nothing).start ≡ slice_index times (k + i + 1)
starts_same times units k [] cs h i lt = absurd (omega arith)
starts_same times units k (o ∷ os) [] h i lt = absurd h
starts_same times units k (o ∷ os) (c ∷ cs) h zero lt = h.0.at_time ∙ ap (slice_index times) (let z : k + 1 ≡ k + 0 + 1 = omega arith in z)
starts_same times units k (o ∷ os) (c ∷ cs) h (suc i) lt = starts_same times units (suc k) os cs h.1 i (omega arith) ∙ ap (slice_index times) (let z : suc k + i + 1 ≡ k + suc i + 1 = omega arith in z)

-- the body with times, begun with these contents
abbrev pub setting : Shapes → ℕ → Body Timed → List Out → Words → Setting
setting shapes interval copy carried t = record { shapes = shapes; body = timed_body interval copy; carried = carried; start = t }

module _ (shapes : Shapes) (interval : ℕ) (body : Body Untimed) (copy : Body Timed) (times units : List ℕ) (is : IsTimedBody times units body copy) (carried : List Out) (t : Words) where
  abbrev s : Setting
  s = setting shapes interval copy carried t

  pub ops_same : ops_of s ≡ map op_of body.ops.items
  ops_same = copies_same times units 0 body.ops.items copy.ops.items is.ops

  pub count_same : count_of s ≡ length body.ops.items
  count_same =
      let a = length-map s.body.ops (λ (p : TimedOp). p.op) in
      let b = length-map body.ops.items (λ (u : Op Untimed). op_of u) in
      let c = ap length ops_same in
      omega arith

  pub start_of : (k : ℕ) → k < count_of s → (op_at s k).start ≡ slice_index times (k + 1)
  start_of k lt = starts_same times units 0 body.ops.items copy.ops.items is.ops k (omega (arith, count_same)) ∙ ap (slice_index times) (let z : 0 + k + 1 ≡ k + 1 = omega arith in z)

  op_there : (k : ℕ) (u : Op Untimed) → nth body.ops.items k ≡ Some u → op_of u ≡ (op_at s k).op
  op_there k u e =
      let lt = nth_within body.ops.items k u e in
      sym (nth_map op_of body.ops.items k u nothing.op e) ∙ ap (λ xs. get_or xs k nothing.op) (sym ops_same) ∙ op_of_at s k (omega (arith, count_same))

  pub is_copy : AreSoundOps shapes carried (map op_of body.ops.items) → IsCopy s carried body
  is_copy sound = record {
    ops = λ k u e. ((let lt = nth_within body.ops.items k u e in omega (arith, count_same)), op_there k u e);
    found = λ k lt. nth_found body.ops.items k (omega (arith, count_same));
    sound = λ k lt.
        (let within : k < length (ops_of s) = omega (arith, length-map s.body.ops (λ (p : TimedOp). p.op)) in
        let there : slice_get (ops_of s) k ≡ Some (op_at s k).op = slice_get-get_or (ops_of s) k nothing.op within ∙ ap (λ o. Some o) (op_of_at s k lt) in
        (subst (λ ops. AreSoundOps shapes carried ops) (sym ops_same) sound) k (op_at s k).op there);
  }
