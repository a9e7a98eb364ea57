-- Requests of one class are served by time.
use Rattle.std.proofs.Common.{◌≡◌, ℕ, ◌<◌, ◌≤◌, ◌⊎◌, inl, inr, Bool, true, false, cond, refl, sym, ap, subst, ◌∙◌, eq-eqb, eqb-true, ltb-true, ltb-false, arith}
use denote.Param.{read}
use Rattle.std.proofs.lemmas.Bool.Decides.{nat_tests}
use Rattle.std.specs.Prelude.{◌==◌, nat_lt}
use Rattle.std.specs.declared.cmp.Ordering.{Ordering}
use Rattle.std.specs.declared.cmp.Ordering.TheVariants.{Less, Equal, Greater}
use Rattle.std.specs.declared.cmp.Ord.Ghosts.{cmp}
use Rattle.std.specs.Ordering.{is_lt, nat_cmp, ordering_then}
use Rattle.ir_core.specs.declared.timing.UnitClass.{UnitClass}
use Rattle.ir_core.specs.declared.timing.UnitClass.TheVariants as u
use Rattle.unit_binding.specs.declared.bind.Request.{Request}
use Rattle.unit_binding.specs.contracts.bind.RequestOrd.TheImpl as impl
use Rattle.unit_binding.specs.Binding.{same_class}
use Rattle.unit_binding.proofs.Dealing.{same_class_is}

-- of two requests of one class in order, the second has the later time, or the same one and no smaller number
abbrev pub ServesByTime : (Request → Request → Ordering) → Type 0
ServesByTime order = (p q : Request) → same_class p.class q.class ≡ true → is_lt (order q p) ≡ false → (p.time < q.time) ⊎ ((p.time ≡ q.time) × (p.op ≤ q.op))

-- the order of the fields
abbrev pub serving : Request → Request → Ordering
serving = read (cmp {X-1 = Request}) impl.ghosts

abbrev class_order : UnitClass → UnitClass → Ordering
class_order (u.Multiplier x) (u.Multiplier y) = nat_cmp x y
class_order (u.Multiplier x) (u.Divider y) = Less
class_order (u.Multiplier x) (u.Port y) = Less
class_order (u.Divider x) (u.Multiplier y) = Greater
class_order (u.Divider x) (u.Divider y) = nat_cmp x y
class_order (u.Divider x) (u.Port y) = Less
class_order (u.Port x) (u.Multiplier y) = Greater
class_order (u.Port x) (u.Divider y) = Greater
class_order (u.Port x) (u.Port y) = nat_cmp x.0 y.0

abbrev request_order : Request → Request → Ordering
request_order p q =
    ordering_then (class_order p.class q.class)
    (ordering_then (nat_cmp p.time q.time) (ordering_then (nat_cmp p.op q.op) (nat_cmp p.occupancy q.occupancy)))

abbrev request : UnitClass → ℕ → ℕ → ℕ → Request
request class time op occupancy = record { class = class; time = time; op = op; occupancy = occupancy }

by_class : (c d : UnitClass) (t o k t' o' k' : ℕ) → serving (request c t o k) (request d t' o' k') ≡ request_order (request c t o k) (request d t' o' k')
by_class (u.Multiplier x) (u.Multiplier y) t o k t' o' k' = refl
by_class (u.Multiplier x) (u.Divider y) t o k t' o' k' = refl
by_class (u.Multiplier x) (u.Port y) t o k t' o' k' = refl
by_class (u.Divider x) (u.Multiplier y) t o k t' o' k' = refl
by_class (u.Divider x) (u.Divider y) t o k t' o' k' = refl
by_class (u.Divider x) (u.Port y) t o k t' o' k' = refl
by_class (u.Port x) (u.Multiplier y) t o k t' o' k' = refl
by_class (u.Port x) (u.Divider y) t o k t' o' k' = refl
by_class (u.Port x) (u.Port y) t o k t' o' k' = refl

serving_is : serving ≡ request_order
serving_is = λ i p q. by_class p.class q.class p.time p.op p.occupancy q.time q.op q.occupancy i

same_number : (x : ℕ) → nat_cmp x x ≡ Equal
same_number x = by_tests (nat_lt x x) (x == x) refl (eq-eqb x x refl)
  where
    by_tests : (b c : Bool) → nat_lt x x ≡ b → c ≡ true → cond b Less (cond c Equal Greater) ≡ Equal
    by_tests true c e f = absurd (let z = ltb-true x x e in omega arith)
    by_tests false true e f = refl
    by_tests false false e f = (cc)

apart : (x y : ℕ) → y ≤ x → (x == y) ≡ false → y < x
apart x y le differ = grind (arith, nat_tests)

class_own : (c : UnitClass) → class_order c c ≡ Equal
class_own (u.Multiplier x) = same_number x
class_own (u.Divider x) = same_number x
class_own (u.Port x) = same_number x.0

-- a number that is not less is greater, or the same and the rest decides
number_then : (x y : ℕ) (rest : Ordering) → is_lt (ordering_then (nat_cmp x y) rest) ≡ false → (y < x) ⊎ ((y ≡ x) × (is_lt rest ≡ false))
number_then x y rest h = by_tests (nat_lt x y) (x == y) refl refl h
  where
    by_tests : (b c : Bool) → nat_lt x y ≡ b → (x == y) ≡ c → is_lt (ordering_then (cond b Less (cond c Equal Greater)) rest) ≡ false → (y < x) ⊎ ((y ≡ x) × (is_lt rest ≡ false))
    by_tests true c e f h = (cc)
    by_tests false true e f h = inr (sym (eqb-true x y f), h)
    by_tests false false e f h = inl (apart x y (ltb-false x y e) f)

number_up : (x y : ℕ) (rest : Ordering) → is_lt (ordering_then (nat_cmp x y) rest) ≡ false → y ≤ x
number_up x y rest h = elim (number_then x y rest h) [ inl lt ↦ omega arith | inr same ↦ (let e = same.0 in omega arith) ]

fields_serve : ServesByTime request_order
fields_serve p q same h =
    let classes : p.class ≡ q.class = same_class_is p.class q.class same in
    let equal : class_order q.class p.class ≡ Equal = ap (class_order q.class) classes ∙ class_own q.class in
    let numbers = ordering_then (nat_cmp q.op p.op) (nat_cmp q.occupancy p.occupancy) in
    let times : is_lt (ordering_then (nat_cmp q.time p.time) numbers) ≡ false = subst (λ o. is_lt (ordering_then o (ordering_then (nat_cmp q.time p.time) numbers)) ≡ false) equal h in
    elim (number_then q.time p.time numbers times) [
      | inl lt ↦ inl lt
      | inr rest ↦ inr (rest.0, number_up q.op p.op (nat_cmp q.occupancy p.occupancy) rest.1)
    ]

pub served_by_time : ServesByTime serving
served_by_time = subst ServesByTime (sym serving_is) fields_serve
