-- The order in which a program's requests are served goes by time.
use Rattle.std.proofs.Common.{◌≡◌, ℕ, ◌<◌, ◌≤◌, ◌⊎◌, inl, inr, Bool, true, false, cond, refl, sym, ap, subst, ◌∙◌, eq-eqb, eqb-true, ltb-true, ltb-false, arith}
use Rattle.std.proofs.lemmas.Bool.Decides.{nat_tests}
use Rattle.std.specs.Prelude.{◌==◌, nat_lt}
use Rattle.std.specs.declared.cmp.Ordering.{Ordering}
use Rattle.std.specs.declared.cmp.Ordering.TheVariants.{Less, Equal, Greater}
use Rattle.std.specs.Ordering.{is_lt, nat_cmp, ordering_then}
use Rattle.ir_core.specs.declared.timing.UnitClass.{UnitClass}
use Rattle.ir_core.specs.declared.timing.UnitClass.TheVariants as u
use Rattle.report_rows.specs.Timing.{class_order, request_order}
use Rattle.unit_binding.proofs.Serving.{ServesByTime}
use Rattle.unit_binding.proofs.Dealing.{same_class_is}

same_number : (x : ℕ) → nat_cmp x x ≡ Equal
same_number x = by_tests (nat_lt x x) (x == x) refl (eq-eqb x x refl)
  where
    by_tests : (b c : Bool) → nat_lt x x ≡ b → c ≡ true → cond b Less (cond c Equal Greater) ≡ Equal
    by_tests true c e f = absurd (let z = ltb-true x x e in omega arith)
    by_tests false true e f = refl
    by_tests false false e f = (cc)

apart : (x y : ℕ) → y ≤ x → (x == y) ≡ false → y < x
apart x y le differ = grind (arith, nat_tests)

class_own : (c : UnitClass) → class_order c c ≡ Equal
class_own (u.Multiplier x) = same_number x
class_own (u.Divider x) = same_number x
class_own (u.Port x) = same_number x.0

-- a number that is not less is greater, or the same and the rest decides
number_then : (x y : ℕ) (rest : Ordering) → is_lt (ordering_then (nat_cmp x y) rest) ≡ false → (y < x) ⊎ ((y ≡ x) × (is_lt rest ≡ false))
number_then x y rest h = by_tests (nat_lt x y) (x == y) refl refl h
  where
    by_tests : (b c : Bool) → nat_lt x y ≡ b → (x == y) ≡ c → is_lt (ordering_then (cond b Less (cond c Equal Greater)) rest) ≡ false → (y < x) ⊎ ((y ≡ x) × (is_lt rest ≡ false))
    by_tests true c e f h = (cc)
    by_tests false true e f h = inr (sym (eqb-true x y f), h)
    by_tests false false e f h = inl (apart x y (ltb-false x y e) f)

number_up : (x y : ℕ) (rest : Ordering) → is_lt (ordering_then (nat_cmp x y) rest) ≡ false → y ≤ x
number_up x y rest h = elim (number_then x y rest h) [ inl lt ↦ omega arith | inr same ↦ (let e = same.0 in omega arith) ]

pub served_by_time : ServesByTime request_order
served_by_time p q same h =
    let classes : p.class ≡ q.class = same_class_is p.class q.class same in
    let equal : class_order q.class p.class ≡ Equal = ap (class_order q.class) classes ∙ class_own q.class in
    let numbers = ordering_then (nat_cmp q.op p.op) (nat_cmp q.occupancy p.occupancy) in
    let times : is_lt (ordering_then (nat_cmp q.time p.time) numbers) ≡ false = subst (λ o. is_lt (ordering_then o (ordering_then (nat_cmp q.time p.time) numbers)) ≡ false) equal h in
    elim (number_then q.time p.time numbers times) [
      | inl lt ↦ inl lt
      | inr rest ↦ inr (rest.0, number_up q.op p.op (nat_cmp q.occupancy p.occupancy) rest.1)
    ]
