-- Cases that are found to compare the same with different numbers exclude each other.
use Rattle.std.proofs.Common.{◌≡◌, ◌≢◌, ℕ, zero, suc, Bool, true, false, ◌&&◌, refl, sym, ap, ◌∙◌, subst, List, [], ◌∷◌, Option, Some, None}
use Rattle.std.specs.Prelude.{◌==◌, slice_get, not, is_some}
use Rattle.std.specs.List.{list_all}
use Rattle.hls_base.specs.declared.number.NodeId.{NodeId}
use Rattle.ir_core.specs.declared.body.OpKind.{OpKind}
use Rattle.ir_core.specs.declared.body.OpKind.TheVariants as o
use Rattle.ir_core.specs.declared.body.Operand.{Operand}
use Rattle.ir_core.specs.declared.body.Source.{Source}
use Rattle.ir_core.specs.declared.body.Source.TheVariants as source
use Rattle.ir_core.specs.declared.cfg.End.{End}
use Rattle.ir_core.specs.declared.cfg.End.TheVariants as end
use Rattle.passes.specs.Numbering.Equal.{operand_eq}
use Rattle.passes.proofs.Equalities.{operand_same}
use Rattle.pass_runs.proofs.ConvertRuns.Opening.{itself_number}
use Rattle.sound_trees.proofs.Fixed.{both_true}
use Rattle.clock_runs.proofs.Lists.{some_same, no_some}
use Rattle.clock_ir.specs.Flows.{TimedOp, TimedBody}
use Rattle.datapath.specs.Savings.{Compares, AreDifferent, AreExclusive}
use Rattle.datapath.specs.LeftOut.{with_number, arguments_compared, compared_by, compared_if, compared_in, compared, differ_as, differ, all_differ, ends_exclusive}

true_false : {A : Type 0} → true ≡ false → A
true_false e = cc

all_at : {A : Type 0} (test : A → Bool) (xs : List A) (k : ℕ) (x : A) → slice_get xs k ≡ Some x → list_all test xs ≡ true → test x ≡ true
all_at test [] k x at e = absurd (no_some at)
all_at test (y ∷ xs) zero x at e = ap test (sym (some_same at)) ∙ (both_true (test y) (list_all test xs) e).0
all_at test (y ∷ xs) (suc k) x at e = all_at test xs k x at (both_true (test y) (list_all test xs) e).1

-- ---- what a case compares

record ComparesArguments (args : List Operand) (x : Operand) (number : ℕ) : Type 0 where
  other : Operand
  are : args ≡ x ∷ other ∷ []
  number_ : other.value ≡ source.Constant number

module _ (x : Operand) (number : ℕ) where
  from_number : (y z : Operand) (s : Source) → z.value ≡ s → with_number y s ≡ Some (x, number) → ComparesArguments (y ∷ z ∷ []) x number
  from_number y z (source.Constant word) e q =
      let same : (y, word) ≡ (x, number) = some_same q in
      record { other = z; are = ap (λ (w : Operand × ℕ). w.0 ∷ z ∷ []) same; number_ = e ∙ ap (λ (w : Operand × ℕ). source.Constant w.1) same }
  from_number y z (source.Variable v) e q = absurd (no_some q)
  from_number y z (source.Result op) e q = absurd (no_some q)

  from_arguments : (args : List Operand) → arguments_compared args ≡ Some (x, number) → ComparesArguments args x number
  from_arguments [] e = absurd (no_some e)
  from_arguments (y ∷ []) e = absurd (no_some e)
  from_arguments (y ∷ z ∷ []) e = from_number y z z.value refl e
  from_arguments (y ∷ z ∷ w ∷ args) e = absurd (no_some e)

  from_kind : (kind : OpKind) (args : List Operand) → compared_by kind args ≡ Some (x, number) → (kind ≡ o.Eq) × ComparesArguments args x number
  from_kind o.Eq args e = (refl, from_arguments args e)
  from_kind kind args e = absurd (no_some e)

  module _ (body : TimedBody) (case : Operand × NodeId) where
    from_source : (s : Source) → case.0.value ≡ s → compared_in body s ≡ Some (x, number) → Compares body case x number
    from_source (source.Constant word) e q = absurd (no_some q)
    from_source (source.Variable v) e q = absurd (no_some q)
    from_source (source.Result op) e q = of (slice_get body.ops op.0) refl q where
      of : (found : Option TimedOp) → slice_get body.ops op.0 ≡ found → compared_if found ≡ Some (x, number) → Compares body case x number
      of None at h = absurd (no_some h)
      of (Some it) at h =
          let k = from_kind it.op.kind it.op.args h in
          record { op = op; it = it; other = k.1.other; is = e; stands = at; equal = k.0; arguments = k.1.are; number_ = k.1.number_ }

    compares : compared body case ≡ Some (x, number) → Compares body case x number
    compares e = from_source case.0.value refl e

-- ---- two cases

different : (body : TimedBody) (one two : Operand × NodeId) → differ body one two ≡ true → AreDifferent body one two
different body one two e = by (compared body one) (compared body two) refl refl e where
  by : (x y : Option (Operand × ℕ)) → compared body one ≡ x → compared body two ≡ y → differ_as x y ≡ true → AreDifferent body one two
  by None y p q h = true_false (sym h)
  by (Some x) None p q h = true_false (sym h)
  by (Some x) (Some y) p q h =
      let b = both_true (operand_eq x.0 y.0) (not (x.1 == y.1)) h in
      let same = operand_same x.0 y.0 b.0 in record {
        operand = x.0;
        first = x.1;
        second = y.1;
        compares = compares x.0 x.1 body one p;
        compares_too = subst (λ (z : Operand). Compares body two z y.1) (sym same) (compares y.0 y.1 body two q);
        differ = λ r. true_false (sym b.1 ∙ ap not (ap (λ n. x.1 == n) (sym r) ∙ itself_number x.1));
      }

turned : (body : TimedBody) (one two : Operand × NodeId) → AreDifferent body one two → AreDifferent body two one
turned body one two d = record { operand = d.operand; first = d.second; second = d.first; compares = d.compares_too; compares_too = d.compares; differ = λ e. d.differ (sym e) }

-- ---- all cases

cases_exclusive : (body : TimedBody) (cases : List (Operand × NodeId)) → all_differ body cases ≡ true → (n m : ℕ) (one two : Operand × NodeId) → n ≢ m → slice_get cases n ≡ Some one → slice_get cases m ≡ Some two → AreDifferent body one two
cases_exclusive body [] e n m one two ne a b = absurd (no_some a)
cases_exclusive body (c ∷ cases) e zero zero one two ne a b = absurd (ne refl)
cases_exclusive body (c ∷ cases) e zero (suc m) one two ne a b =
    let h = both_true (is_some (compared body c)) (list_all (differ body c) cases && all_differ body cases) e in
    let k = both_true (list_all (differ body c) cases) (all_differ body cases) h.1 in
    subst (λ (z : Operand × NodeId). AreDifferent body z two) (some_same a) (different body c two (all_at (differ body c) cases m two b k.0))
cases_exclusive body (c ∷ cases) e (suc n) zero one two ne a b =
    let h = both_true (is_some (compared body c)) (list_all (differ body c) cases && all_differ body cases) e in
    let k = both_true (list_all (differ body c) cases) (all_differ body cases) h.1 in
    subst (λ (z : Operand × NodeId). AreDifferent body one z) (some_same b) (turned body c one (different body c one (all_at (differ body c) cases n one a k.0)))
cases_exclusive body (c ∷ cases) e (suc n) (suc m) one two ne a b =
    let h = both_true (is_some (compared body c)) (list_all (differ body c) cases && all_differ body cases) e in
    let k = both_true (list_all (differ body c) cases) (all_differ body cases) h.1 in
    cases_exclusive body cases k.1 n m one two (λ q. ne (ap suc q)) a b

pub end_exclusive : (body : TimedBody) (e : End) → ends_exclusive body e ≡ true → AreExclusive body e
end_exclusive body (end.Choose cases other) e = cases_exclusive body cases.items e
end_exclusive body (end.Jump next) e = tt
end_exclusive body (end.Branch test left right) e = tt
end_exclusive body (end.Return word) e = tt
