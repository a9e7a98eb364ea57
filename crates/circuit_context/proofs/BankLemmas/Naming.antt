-- Each thing has a register of its own.
use Rattle.std.proofs.Common.{◌≡◌, ◌≢◌, ◌⊎◌, inl, inr, ℕ, zero, suc, Bool, true, false, ◌&&◌, ◌||◌, List, [], ◌∷◌, ◌++◌, length, map, get_or, slice_get, Some, refl, sym, ap, ◌∙◌, subst, true≢false}
use Rattle.std.specs.Prelude.{◌==◌, not, position, if◌then◌else◌}
use Rattle.std.specs.Option.{option_map}
use Rattle.std.specs.List.{list_any}
use Rattle.std.proofs.lemmas.Bool.{false≢true}
use Rattle.std.proofs.lemmas.Bool.Decides.{Decides-eqb}
use Rattle.std.proofs.lemmas.List.{map-append}
use Rattle.std.proofs.lemmas.List.Quantifiers.{position-Some}
use Rattle.std.proofs.lemmas.Option.{none-some, same_Some, slice_get-map, slice_get-get_or}
use Rattle.indexmap.specs.IndexSet.{insert_key}
use Rattle.datapath.specs.Cycles as c
use Rattle.datapath.specs.Cycles.{Register}
use Rattle.circuit_context.specs.declared.wanted.role.UnitRegister.{UnitRegister}
use Rattle.circuit_context.specs.declared.wanted.role.UnitRegister.TheVariants as of_unit
use Rattle.circuit_context.specs.declared.wanted.role.Role.{Role}
use Rattle.circuit_context.specs.declared.wanted.role.Role.TheVariants as role
use Rattle.circuit_context.specs.contracts.wanted.role.UnitRegisterPartialEq.TheImpl as unit_impl
use Rattle.circuit_context.specs.contracts.wanted.role.RolePartialEq.TheImpl as role_impl
use Rattle.circuit_context.specs.Wanted.Roles.{named}
use Rattle.circuit_context.specs.Wanted.Driving.{AreDistinct}

-- ---- what a register is for

abbrev role_of : Register → Role
role_of c.Ready = role.Ready
role_of c.Done = role.Done
role_of c.Initial = role.Initial
role_of c.Time = role.Time
role_of (c.Active node) = role.Active (record { 0 = node })
role_of (c.Load node) = role.Load (record { 0 = node })
role_of (c.Gate tests) = role.Gate tests
role_of (c.Passed intervals) = role.Passed intervals
role_of c.Waited = role.Waited
role_of (c.Variable v) = role.Variable (record { 0 = v })
role_of (c.Value k) = role.Value k
role_of c.Result = role.Result
role_of (c.Left bits unit) = role.OfUnit (of_unit.Left bits unit)
role_of (c.Right bits unit) = role.OfUnit (of_unit.Right bits unit)
role_of (c.Product bits unit) = role.OfUnit (of_unit.Product bits unit)
role_of (c.Steps bits unit) = role.OfUnit (of_unit.Steps bits unit)
role_of (c.Dividend bits unit) = role.OfUnit (of_unit.Dividend bits unit)
role_of (c.Remainder bits unit) = role.OfUnit (of_unit.Remainder bits unit)
role_of (c.Divisor bits unit) = role.OfUnit (of_unit.Divisor bits unit)
role_of (c.QuotientSign bits unit) = role.OfUnit (of_unit.QuotientSign bits unit)
role_of (c.RemainderSign bits unit) = role.OfUnit (of_unit.RemainderSign bits unit)
role_of (c.Word array port) = role.Word (record { 0 = array }) port
role_of c.Named = role.Named

pub role_back : (r : Role) → role_of (named r) ≡ r
role_back role.Ready = refl
role_back role.Done = refl
role_back role.Initial = refl
role_back role.Time = refl
role_back (role.Active node) = refl
role_back (role.Load node) = refl
role_back (role.Gate tests) = refl
role_back (role.Passed intervals) = refl
role_back role.Waited = refl
role_back (role.Variable v) = refl
role_back (role.Value k) = refl
role_back role.Result = refl
role_back (role.Word array port) = refl
role_back role.Named = refl
role_back (role.OfUnit (of_unit.Left bits unit)) = refl
role_back (role.OfUnit (of_unit.Right bits unit)) = refl
role_back (role.OfUnit (of_unit.Product bits unit)) = refl
role_back (role.OfUnit (of_unit.Steps bits unit)) = refl
role_back (role.OfUnit (of_unit.Dividend bits unit)) = refl
role_back (role.OfUnit (of_unit.Remainder bits unit)) = refl
role_back (role.OfUnit (of_unit.Divisor bits unit)) = refl
role_back (role.OfUnit (of_unit.QuotientSign bits unit)) = refl
role_back (role.OfUnit (of_unit.RemainderSign bits unit)) = refl

pub named_apart : (r s : Role) → named r ≡ named s → r ≡ s
named_apart r s e = sym (role_back r) ∙ (ap role_of e ∙ role_back s)

-- ---- comparisons

abbrev pub role_eq : Role → Role → Bool
role_eq = role_impl.eq-value.it

abbrev unit_eq : UnitRegister → UnitRegister → Bool
unit_eq = unit_impl.eq-value.it

first : (a b : Bool) → (a && b) ≡ true → a ≡ true
first true b e = refl
first false b e = e

second : (a b : Bool) → (a && b) ≡ true → b ≡ true
second true b e = e
second false b e = absurd (false≢true e)

number_same : (x y : ℕ) → (x == y) ≡ true → x ≡ y
number_same x y e = (Decides-eqb x y).0 e

number_itself : (x : ℕ) → (x == x) ≡ true
number_itself x = (Decides-eqb x x).1 refl

two_same : {X : Type 0} (make : ℕ → ℕ → X) (a b n m : ℕ) → ((a == b) && (n == m)) ≡ true → make a n ≡ make b m
two_same make a b n m e =
    let p = number_same a b (first (a == b) (n == m) e) in let q = number_same n m (second (a == b) (n == m) e) in λ i. make (p i) (q i)

two_itself : (a n : ℕ) → ((a == a) && (n == n)) ≡ true
two_itself a n = ap (λ b. b && (n == n)) (number_itself a) ∙ number_itself n

unit_same : (x y : UnitRegister) → unit_eq x y ≡ true → x ≡ y
unit_same (of_unit.Left a n) (of_unit.Left b m) e = two_same of_unit.Left a b n m e
unit_same (of_unit.Right a n) (of_unit.Right b m) e = two_same of_unit.Right a b n m e
unit_same (of_unit.Product a n) (of_unit.Product b m) e = two_same of_unit.Product a b n m e
unit_same (of_unit.Steps a n) (of_unit.Steps b m) e = two_same of_unit.Steps a b n m e
unit_same (of_unit.Dividend a n) (of_unit.Dividend b m) e = two_same of_unit.Dividend a b n m e
unit_same (of_unit.Remainder a n) (of_unit.Remainder b m) e = two_same of_unit.Remainder a b n m e
unit_same (of_unit.Divisor a n) (of_unit.Divisor b m) e = two_same of_unit.Divisor a b n m e
unit_same (of_unit.QuotientSign a n) (of_unit.QuotientSign b m) e = two_same of_unit.QuotientSign a b n m e
unit_same (of_unit.RemainderSign a n) (of_unit.RemainderSign b m) e = two_same of_unit.RemainderSign a b n m e
unit_same x y e = absurd (false≢true e)

pub role_same : (x y : Role) → role_eq x y ≡ true → x ≡ y
role_same role.Ready role.Ready e = refl
role_same role.Done role.Done e = refl
role_same role.Initial role.Initial e = refl
role_same role.Time role.Time e = refl
role_same (role.Active x) (role.Active y) e = let p = number_same x.0 y.0 e in λ i. role.Active (record { 0 = p i })
role_same (role.Load x) (role.Load y) e = let p = number_same x.0 y.0 e in λ i. role.Load (record { 0 = p i })
role_same (role.Gate x) (role.Gate y) e = ap (λ k. role.Gate k) (number_same x y e)
role_same (role.Passed x) (role.Passed y) e = ap (λ k. role.Passed k) (number_same x y e)
role_same role.Waited role.Waited e = refl
role_same (role.Variable x) (role.Variable y) e = let p = number_same x.0 y.0 e in λ i. role.Variable (record { 0 = p i })
role_same (role.Value x) (role.Value y) e = ap (λ k. role.Value k) (number_same x y e)
role_same role.Result role.Result e = refl
role_same (role.Word a n) (role.Word b m) e = two_same (λ x k. role.Word (record { 0 = x }) k) a.0 b.0 n m e
role_same role.Named role.Named e = refl
role_same (role.OfUnit x) (role.OfUnit y) e = ap (λ r. role.OfUnit r) (unit_same x y e)
role_same x y e = absurd (false≢true e)

unit_itself : (x : UnitRegister) → unit_eq x x ≡ true
unit_itself (of_unit.Left a n) = two_itself a n
unit_itself (of_unit.Right a n) = two_itself a n
unit_itself (of_unit.Product a n) = two_itself a n
unit_itself (of_unit.Steps a n) = two_itself a n
unit_itself (of_unit.Dividend a n) = two_itself a n
unit_itself (of_unit.Remainder a n) = two_itself a n
unit_itself (of_unit.Divisor a n) = two_itself a n
unit_itself (of_unit.QuotientSign a n) = two_itself a n
unit_itself (of_unit.RemainderSign a n) = two_itself a n

pub role_itself : (x : Role) → role_eq x x ≡ true
role_itself role.Ready = refl
role_itself role.Done = refl
role_itself role.Initial = refl
role_itself role.Time = refl
role_itself (role.Active x) = number_itself x.0
role_itself (role.Load x) = number_itself x.0
role_itself (role.Gate x) = number_itself x
role_itself (role.Passed x) = number_itself x
role_itself role.Waited = refl
role_itself (role.Variable x) = number_itself x.0
role_itself (role.Value x) = number_itself x
role_itself role.Result = refl
role_itself (role.Word a n) = two_itself a.0 n
role_itself role.Named = refl
role_itself (role.OfUnit x) = unit_itself x

-- ---- lists of roles

-- the register that was found
pub found : (roles : List Role) (r : Role) (k : ℕ) → position (role_eq r) roles ≡ Some k → slice_get (map named roles) k ≡ Some (named r)
found roles r k at =
    let p = position-Some (role_eq r) roles k r at in
    let same : r ≡ get_or roles k r = role_same r (get_or roles k r) p.1 in
    slice_get-map named roles k ∙ (ap (option_map named) (slice_get-get_or roles k r p.0) ∙ ap (λ s. Some (named s)) (sym same))

-- a role that is not among these has another register
pub other : (roles : List Role) (r : Role) (k : ℕ) → list_any (role_eq r) roles ≡ false → slice_get (map named roles) k ≢ Some (named r)
other [] r k none at = none-some (named r) at
other (s ∷ roles) r zero none at =
    let same : r ≡ s = sym (named_apart s r (same_Some (named s) (named r) at)) in
    let found_ : role_eq r s ≡ true = ap (role_eq r) (sym same) ∙ role_itself r in
    true≢false (sym (ap (λ b. b || list_any (role_eq r) roles) found_) ∙ none)
other (s ∷ roles) r (suc k) none at = other roles r k (rest (role_eq r s) (list_any (role_eq r) roles) none) at where
  rest : (a b : Bool) → (a || b) ≡ false → b ≡ false
  rest true b e = absurd (true≢false e)
  rest false b e = e

push_get : {A : Type 0} (xs : List A) (x y : A) (k : ℕ) → slice_get (xs ++ x ∷ []) k ≡ Some y → (slice_get xs k ≡ Some y) ⊎ ((k ≡ length xs) × (x ≡ y))
push_get [] x y zero h = inr (refl, same_Some x y h)
push_get [] x y (suc k) h = absurd (none-some y h)
push_get (z ∷ zs) x y zero h = inl h
push_get (z ∷ zs) x y (suc k) h = later (push_get zs x y k h) where
  later : (slice_get zs k ≡ Some y) ⊎ ((k ≡ length zs) × (x ≡ y)) → (slice_get zs k ≡ Some y) ⊎ ((suc k ≡ suc (length zs)) × (x ≡ y))
  later (inl at) = inl at
  later (inr is) = inr (ap suc is.0, is.1)

distinct_pushed : (names : List Register) (name : Register) → ((k : ℕ) → slice_get names k ≢ Some name) → AreDistinct names → AreDistinct (names ++ name ∷ [])
distinct_pushed names name fresh apart j k r at at_too = both (push_get names name r j at) (push_get names name r k at_too) where
  both : (slice_get names j ≡ Some r) ⊎ ((j ≡ length names) × (name ≡ r)) → (slice_get names k ≡ Some r) ⊎ ((k ≡ length names) × (name ≡ r)) → j ≡ k
  both (inl x) (inl y) = apart j k r x y
  both (inl x) (inr y) = absurd (fresh j (x ∙ ap (λ q. Some q) (sym y.1)))
  both (inr x) (inl y) = absurd (fresh k (y ∙ ap (λ q. Some q) (sym x.1)))
  both (inr x) (inr y) = x.0 ∙ sym y.0

-- one more role keeps the registers distinct
pub distinct_more : (roles after : List Role) (r : Role) → after ≡ roles ++ r ∷ [] → list_any (role_eq r) roles ≡ false → AreDistinct (map named roles) → AreDistinct (map named after)
distinct_more roles after r is none apart =
    subst AreDistinct (sym (ap (map named) is ∙ map-append named roles (r ∷ []))) (distinct_pushed (map named roles) (named r) (λ k. other roles r k none) apart)

pub added : (roles after : List Role) (r : Role) (is_new : Bool) → is_new ≡ true → is_new ≡ not (list_any (role_eq r) roles) → after ≡ insert_key role_eq roles r → AreDistinct (map named roles) → AreDistinct (map named after)
added roles after r is_new is says keys apart =
    let none : list_any (role_eq r) roles ≡ false = flipped (list_any (role_eq r) roles) (sym says ∙ is) in
    distinct_more roles after r (keys ∙ ap (λ b. if b then roles else roles ++ r ∷ []) none) none apart where
      flipped : (b : Bool) → not b ≡ true → b ≡ false
      flipped true e = sym e
      flipped false e = refl
