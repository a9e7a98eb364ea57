-- Where a register stands among names, and a signal among those that are seen.
use Rattle.std.proofs.Common.{◌≡◌, ℕ, zero, suc, ◌+◌, ◌==◌, Bool, true, List, [], ◌∷◌, get_or, slice_get, Some, inl, inr, refl, sym, ap, ◌∙◌, subst}
use Rattle.std.specs.Prelude.{◌&&◌}
use Rattle.std.proofs.lemmas.Bool.{cases_Bool, and_parts, eqb-true, eq-eqb, and_from, false≢true}
use Rattle.std.proofs.lemmas.Option.{none-some, same_Some}
use Rattle.hls_base.specs.declared.number.ArrayId.{ArrayId}
use Rattle.ir_core.specs.declared.timing.UnitClass.{UnitClass}
use Rattle.ir_core.specs.declared.timing.UnitClass.TheVariants as u
use Rattle.rtl_core.specs.declared.design.Atom.{Atom}
use Rattle.datapath.specs.Cycles as c
use Rattle.datapath.specs.Cycles.{Register, Signal}
use Rattle.circuit_context.specs.Wanted.Driving.{Seen, IsUnnamed, IsUnseen}

-- ---- three numbers

-- whether two lines of numbers are the same
abbrev same_three : (a b c x y z : ℕ) → Bool
same_three a b c x y z = (a == x) && ((b == y) && (c == z))

pub record AreThree (a b c x y z : ℕ) : Type 0 where
  pub first : a ≡ x
  pub second : b ≡ y
  pub third : c ≡ z

three_are : (a b c x y z : ℕ) → same_three a b c x y z ≡ true → AreThree a b c x y z
three_are a b c x y z e =
    let outer = and_parts (a == x) ((b == y) && (c == z)) e in
    let inner = and_parts (b == y) (c == z) outer.1 in
    record { first = eqb-true a x outer.0; second = eqb-true b y inner.0; third = eqb-true c z inner.1 }

three_same : (a b c : ℕ) → same_three a b c a b c ≡ true
three_same a b c = and_from _ _ (eq-eqb a a refl) (and_from _ _ (eq-eqb b b refl) (eq-eqb c c refl))

-- ---- registers

abbrev kind_of : Register → ℕ
kind_of c.Ready = 0
kind_of c.Done = 1
kind_of c.Initial = 2
kind_of c.Time = 3
kind_of (c.Active i) = 4
kind_of (c.Load i) = 5
kind_of (c.Gate n) = 6
kind_of (c.Passed n) = 7
kind_of c.Waited = 8
kind_of (c.Variable v) = 9
kind_of (c.Value k) = 10
kind_of c.Result = 11
kind_of (c.Left bits n) = 12
kind_of (c.Right bits n) = 13
kind_of (c.Product bits n) = 14
kind_of (c.Steps bits n) = 15
kind_of (c.Dividend bits n) = 16
kind_of (c.Remainder bits n) = 17
kind_of (c.Divisor bits n) = 18
kind_of (c.QuotientSign bits n) = 19
kind_of (c.RemainderSign bits n) = 20
kind_of (c.Word a n) = 21
kind_of c.Named = 22

abbrev first_of : Register → ℕ
first_of (c.Active i) = i
first_of (c.Load i) = i
first_of (c.Gate n) = n
first_of (c.Passed n) = n
first_of (c.Variable v) = v
first_of (c.Value k) = k
first_of (c.Left bits n) = bits
first_of (c.Right bits n) = bits
first_of (c.Product bits n) = bits
first_of (c.Steps bits n) = bits
first_of (c.Dividend bits n) = bits
first_of (c.Remainder bits n) = bits
first_of (c.Divisor bits n) = bits
first_of (c.QuotientSign bits n) = bits
first_of (c.RemainderSign bits n) = bits
first_of (c.Word a n) = a
first_of r = 0

abbrev second_of : Register → ℕ
second_of (c.Left bits n) = n
second_of (c.Right bits n) = n
second_of (c.Product bits n) = n
second_of (c.Steps bits n) = n
second_of (c.Dividend bits n) = n
second_of (c.Remainder bits n) = n
second_of (c.Divisor bits n) = n
second_of (c.QuotientSign bits n) = n
second_of (c.RemainderSign bits n) = n
second_of (c.Word a n) = n
second_of r = 0

abbrev register_of : ℕ → ℕ → ℕ → Register
register_of kind x n =
    get_or
    (c.Ready ∷ c.Done ∷ c.Initial ∷ c.Time ∷ c.Active x ∷ c.Load x ∷ c.Gate x ∷ c.Passed x ∷ c.Waited ∷ c.Variable x ∷ c.Value x ∷ c.Result ∷ c.Left x n ∷ c.Right x n ∷ c.Product x n ∷ c.Steps x n
    ∷ c.Dividend x n ∷ c.Remainder x n ∷ c.Divisor x n ∷ c.QuotientSign x n ∷ c.RemainderSign x n ∷ c.Word x n ∷ c.Named ∷ [])
    kind c.Ready

register_again : (r : Register) → register_of (kind_of r) (first_of r) (second_of r) ≡ r
register_again c.Ready = refl
register_again c.Done = refl
register_again c.Initial = refl
register_again c.Time = refl
register_again (c.Active i) = refl
register_again (c.Load i) = refl
register_again (c.Gate n) = refl
register_again (c.Passed n) = refl
register_again c.Waited = refl
register_again (c.Variable v) = refl
register_again (c.Value k) = refl
register_again c.Result = refl
register_again (c.Left bits n) = refl
register_again (c.Right bits n) = refl
register_again (c.Product bits n) = refl
register_again (c.Steps bits n) = refl
register_again (c.Dividend bits n) = refl
register_again (c.Remainder bits n) = refl
register_again (c.Divisor bits n) = refl
register_again (c.QuotientSign bits n) = refl
register_again (c.RemainderSign bits n) = refl
register_again (c.Word a n) = refl
register_again c.Named = refl

abbrev same_register : Register → Register → Bool
same_register r q = same_three (kind_of r) (first_of r) (second_of r) (kind_of q) (first_of q) (second_of q)

registers_are : (r q : Register) → same_register r q ≡ true → r ≡ q
registers_are r q e =
    let t = three_are (kind_of r) (first_of r) (second_of r) (kind_of q) (first_of q) (second_of q) e in
    sym (register_again r)
    ∙ (ap (λ k. register_of k (first_of r) (second_of r)) t.first
    ∙ (ap (λ k. register_of (kind_of q) k (second_of r)) t.second ∙ (ap (register_of (kind_of q) (first_of q)) t.third ∙ register_again q)))

-- the register has one of these names, or none
pub data Place (names : List Register) (r : Register) : Type 0 where
  place : (k : ℕ) → slice_get names k ≡ Some r → Place names r
  no_place : IsUnnamed names r → Place names r

further : (q r : Register) (names : List Register) → (q ≡ r → ⊥) → Place names r → Place (q ∷ names) r
further q r names other (place k there) = place (suc k) there
further q r names other (no_place none) = no_place (not_there q r names other none)
  where
    not_there : (q r : Register) (names : List Register) → (q ≡ r → ⊥) → IsUnnamed names r → IsUnnamed (q ∷ names) r
    not_there q r names other none zero e = other (same_Some q r e)
    not_there q r names other none (suc k) e = none k e

pub place_of : (names : List Register) (r : Register) → Place names r
place_of [] r = no_place (λ k e. none-some r e)
place_of (q ∷ names) r =
    elim (cases_Bool (same_register q r)) [
      | inl yes_ ↦ place 0 (ap (λ (x : Register). Some x) (registers_are q r yes_))
      | inr no_ ↦ further q r names
          (λ same. false≢true (sym no_ ∙ subst (λ (z : Register). same_register q z ≡ true) same (three_same (kind_of q) (first_of q) (second_of q)))) (place_of names r)
    ]

-- ---- signals

abbrev class_kind : UnitClass → ℕ
class_kind (u.Multiplier bits) = 0
class_kind (u.Divider bits) = 1
class_kind (u.Port a) = 2

abbrev class_number : UnitClass → ℕ
class_number (u.Multiplier bits) = bits
class_number (u.Divider bits) = bits
class_number (u.Port a) = a.0

abbrev sort_of : Signal → ℕ
sort_of (c.LeftOf class n) = class_kind class
sort_of (c.RightOf class n) = 3 + class_kind class
sort_of (c.SignedOf class n) = 6 + class_kind class
sort_of (c.AddressOf a n) = 9
sort_of (c.StoredOf a n) = 10

abbrev owner_of : Signal → ℕ
owner_of (c.LeftOf class n) = class_number class
owner_of (c.RightOf class n) = class_number class
owner_of (c.SignedOf class n) = class_number class
owner_of (c.AddressOf a n) = a
owner_of (c.StoredOf a n) = a

abbrev number_of : Signal → ℕ
number_of (c.LeftOf class n) = n
number_of (c.RightOf class n) = n
number_of (c.SignedOf class n) = n
number_of (c.AddressOf a n) = n
number_of (c.StoredOf a n) = n

abbrev array_id : ℕ → ArrayId
array_id a = record { 0 = a }

abbrev signal_of : ℕ → ℕ → ℕ → Signal
signal_of sort x n =
    get_or
    (c.LeftOf (u.Multiplier x) n ∷ c.LeftOf (u.Divider x) n ∷ c.LeftOf (u.Port (array_id x)) n ∷ c.RightOf (u.Multiplier x) n ∷ c.RightOf (u.Divider x) n ∷ c.RightOf (u.Port (array_id x)) n
    ∷ c.SignedOf (u.Multiplier x) n ∷ c.SignedOf (u.Divider x) n ∷ c.SignedOf (u.Port (array_id x)) n ∷ c.AddressOf x n ∷ c.StoredOf x n ∷ [])
    sort (c.AddressOf x n)

signal_again : (s : Signal) → signal_of (sort_of s) (owner_of s) (number_of s) ≡ s
signal_again (c.LeftOf (u.Multiplier bits) n) = refl
signal_again (c.LeftOf (u.Divider bits) n) = refl
signal_again (c.LeftOf (u.Port a) n) = refl
signal_again (c.RightOf (u.Multiplier bits) n) = refl
signal_again (c.RightOf (u.Divider bits) n) = refl
signal_again (c.RightOf (u.Port a) n) = refl
signal_again (c.SignedOf (u.Multiplier bits) n) = refl
signal_again (c.SignedOf (u.Divider bits) n) = refl
signal_again (c.SignedOf (u.Port a) n) = refl
signal_again (c.AddressOf a n) = refl
signal_again (c.StoredOf a n) = refl

abbrev same_signal : Signal → Signal → Bool
same_signal s t = same_three (sort_of s) (owner_of s) (number_of s) (sort_of t) (owner_of t) (number_of t)

signals_are : (s t : Signal) → same_signal s t ≡ true → s ≡ t
signals_are s t e =
    let h = three_are (sort_of s) (owner_of s) (number_of s) (sort_of t) (owner_of t) (number_of t) e in
    sym (signal_again s)
    ∙ (ap (λ k. signal_of k (owner_of s) (number_of s)) h.first
    ∙ (ap (λ k. signal_of (sort_of t) k (number_of s)) h.second ∙ (ap (signal_of (sort_of t) (owner_of t)) h.third ∙ signal_again t)))

-- the signal is seen at one of these atoms, or nowhere
pub data Sight (sigs : List Seen) (s : Signal) : Type 0 where
  sight : (k : ℕ) (a : Atom) → slice_get sigs k ≡ Some (s, a) → Sight sigs s
  no_sight : IsUnseen sigs s → Sight sigs s

seen_further : (x : Seen) (s : Signal) (sigs : List Seen) → (x.0 ≡ s → ⊥) → Sight sigs s → Sight (x ∷ sigs) s
seen_further x s sigs other (sight k a there) = sight (suc k) a there
seen_further x s sigs other (no_sight none) = no_sight (not_there x s sigs other none)
  where
    not_there : (x : Seen) (s : Signal) (sigs : List Seen) → (x.0 ≡ s → ⊥) → IsUnseen sigs s → IsUnseen (x ∷ sigs) s
    not_there x s sigs other none zero a e = other (ap (λ (z : Seen). z.0) (same_Some x (s, a) e))
    not_there x s sigs other none (suc k) a e = none k a e

pub sight_of : (sigs : List Seen) (s : Signal) → Sight sigs s
sight_of [] s = no_sight (λ k a e. none-some (s, a) e)
sight_of (x ∷ sigs) s =
    elim (cases_Bool (same_signal x.0 s)) [
      | inl yes_ ↦ sight 0 x.1 (ap (λ (z : Signal). Some (z, x.1)) (signals_are x.0 s yes_))
      | inr no_ ↦ seen_further x s sigs
          (λ same. false≢true (sym no_ ∙ subst (λ (z : Signal). same_signal x.0 z ≡ true) same (three_same (sort_of x.0) (owner_of x.0) (number_of x.0)))) (sight_of sigs s)
    ]
