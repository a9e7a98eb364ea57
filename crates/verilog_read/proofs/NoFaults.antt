-- Faults that are not there.
use Rattle.std.proofs.Common.{◌≡◌, ℕ, Bool, true, false, List, [], ◌∷◌, ◌++◌, Some, None, refl, sym, ap, ◌∙◌}
use Rattle.std.proofs.lemmas.Option.{none-some}
use Rattle.hls_base.specs.declared.place.Place.{Place}
use Rattle.hls_base.specs.declared.refusal.Refusal.{Refusal}
use Rattle.verilog_read.specs.Earliest.{earlier, noted, first_fault}
use Rattle.verilog_read.specs.Faults.{unless}

pub none_left : {X : Type 0} (xs ys : List X) → xs ++ ys ≡ [] → xs ≡ []
none_left [] ys e = refl
none_left (x ∷ xs) ys e = absurd cc

pub none_right : {X : Type 0} (xs ys : List X) → xs ++ ys ≡ [] → ys ≡ []
none_right [] ys e = e
none_right (x ∷ xs) ys e = absurd cc

pub none_both : {X : Type 0} (xs ys : List X) → xs ≡ [] → ys ≡ [] → xs ++ ys ≡ []
none_both xs ys e f = ap (λ zs. zs ++ ys) e ∙ f

pub unless_true : (b : Bool) (rule : ℕ) (place : Place) → unless b rule place ≡ [] → b ≡ true
unless_true true rule place e = refl
unless_true false rule place e = absurd cc

pub unless_none : (b : Bool) (rule : ℕ) (place : Place) → b ≡ true → unless b rule place ≡ []
unless_none b rule place e = ap (λ t. unless t rule place) e

some_noted : (x : Refusal) (fs : List Refusal) → noted (Some x) fs ≡ None → ⊥
some_noted x [] e = none-some x (sym e)
some_noted x (f ∷ fs) e = some_noted (earlier (Some x) f) fs e

pub no_faults : (fs : List Refusal) → first_fault fs ≡ None → fs ≡ []
no_faults [] e = refl
no_faults (f ∷ fs) e = absurd (some_noted f fs e)
