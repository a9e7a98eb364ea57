-- Lemmas on variables that are named in lists.
use Rattle.std.proofs.Common.{◌≡◌, ℕ, zero, suc, Bool, true, false, ◌||◌, refl, sym, ap, ◌∙◌, subst, List, [], ◌∷◌, ◌++◌, map, flat_map, option_to_list, Option, Some}
use Rattle.std.specs.Prelude.{◌==◌, slice_get}
use Rattle.std.specs.List.{list_any}
use Rattle.std.proofs.Math.Bool.{or-true}
use Rattle.std.proofs.lemmas.List.Folds.{list_any-append}
use Rattle.hls_base.specs.declared.number.VarId.{VarId}
use Rattle.ir_core.specs.declared.body.Operand.{Operand}
use Rattle.ir_core.specs.declared.body.Source.TheVariants as source
use Rattle.pass_runs.proofs.ConvertRuns.Opening.{itself_number}
use Rattle.clock_runs.proofs.Lists.{some_same, no_some}
use Rattle.reg_binding.specs.Liveness.{is_among, read_by, operand_reads}

pub or_left : (a b : Bool) → a ≡ true → (a || b) ≡ true
or_left a b e = ap (λ c. c || b) e

pub or_right : (a b : Bool) → b ≡ true → (a || b) ≡ true
or_right a b e = ap (λ c. a || c) e ∙ or-true a

-- what one element passes
pub any_at : {A : Type 0} (test : A → Bool) (xs : List A) (k : ℕ) (x : A) → slice_get xs k ≡ Some x → test x ≡ true → list_any test xs ≡ true
any_at test [] k x at e = absurd (no_some at)
any_at test (y ∷ xs) zero x at e = or_left (test y) (list_any test xs) (ap test (some_same at) ∙ e)
any_at test (y ∷ xs) (suc k) x at e = or_right (test y) (list_any test xs) (any_at test xs k x at e)

pub among_left : (v : ℕ) (xs ys : List VarId) → is_among v xs ≡ true → is_among v (xs ++ ys) ≡ true
among_left v xs ys e = list_any-append (λ (w : VarId). w.0 == v) xs ys ∙ or_left (is_among v xs) (is_among v ys) e

pub among_right : (v : ℕ) (xs ys : List VarId) → is_among v ys ≡ true → is_among v (xs ++ ys) ≡ true
among_right v xs ys e = list_any-append (λ (w : VarId). w.0 == v) xs ys ∙ or_right (is_among v xs) (is_among v ys) e

pub among_flat : {A : Type 0} (v : ℕ) (f : A → List VarId) (xs : List A) (k : ℕ) (x : A) → slice_get xs k ≡ Some x → is_among v (f x) ≡ true → is_among v (flat_map f xs) ≡ true
among_flat v f [] k x at e = absurd (no_some at)
among_flat v f (y ∷ xs) zero x at e = among_left v (f y) (flat_map f xs) (ap (λ z. is_among v (f z)) (some_same at) ∙ e)
among_flat v f (y ∷ xs) (suc k) x at e = among_right v (f y) (flat_map f xs) (among_flat v f xs k x at e)

pub among_option : {A : Type 0} (v : ℕ) (f : A → List VarId) (o : Option A) (x : A) → o ≡ Some x → is_among v (f x) ≡ true → is_among v (flat_map f (option_to_list o)) ≡ true
among_option v f o x is e = subst (λ (o1 : Option _). is_among v (flat_map f (option_to_list o1)) ≡ true) (sym is) (among_left v (f x) [] e)

pub among_operand : (x : Operand) (v : VarId) → x.value ≡ source.Variable v → is_among v.0 (operand_reads x) ≡ true
among_operand x v e = ap (λ s. is_among v.0 (read_by s)) e ∙ or_left (v.0 == v.0) false (itself_number v.0)

pub mapped : {A B : Type 0} (f : A → B) (xs : List A) (k : ℕ) (y : B) → slice_get (map f xs) k ≡ Some y → (x : A) × ((slice_get xs k ≡ Some x) × (f x ≡ y))
mapped f [] k y e = absurd (no_some e)
mapped f (x ∷ xs) zero y e = (x, (refl, some_same e))
mapped f (x ∷ xs) (suc k) y e = mapped f xs k y e

pub at_map : {A B : Type 0} (f : A → B) (xs : List A) (k : ℕ) (x : A) → slice_get xs k ≡ Some x → slice_get (map f xs) k ≡ Some (f x)
at_map f [] k x e = absurd (no_some e)
at_map f (y ∷ xs) zero x e = ap (λ z. Some (f z)) (some_same e)
at_map f (y ∷ xs) (suc k) x e = at_map f xs k x e

pub in_map : {A B : Type 0} (f : A → B) (xs : List A) (k : ℕ) (y : B) → (x : A) → slice_get xs k ≡ Some x → f x ≡ y → slice_get (map f xs) k ≡ Some y
in_map f xs k y x at is = at_map f xs k x at ∙ ap (λ z. Some z) is
