-- Lemmas on lists and options.
use Rattle.std.proofs.Common.{◌≡◌, ℕ, zero, suc, ◌<◌, sym, refl, ap, subst, List, [], ◌∷◌, ◌++◌, map, take, length, get_or, Some, None, arith}
use Rattle.std.specs.Prelude.{slice_get}
use Rattle.std.specs.List.{All, Contains}
use Rattle.std.proofs.lemmas.List.Elements.{All-contains, Contains-append_left, Contains-append_right}
use Rattle.dep_graph.specs.Offsets.{nth}
use Rattle.dep_graph.specs.Dependences.{gather}
use Rattle.clock_runs.specs.Premises.{Each}

pub some_same : {A : Type 0} {x y : A} → Some x ≡ Some y → x ≡ y
some_same e = (cc)

pub no_some : {A : Type 0} {x : A} → None ≡ Some x → ⊥
no_some e = (cc)

pub some_no : {A : Type 0} {x : A} → Some x ≡ None → ⊥
some_no e = (cc)

pub nth_front : {A : Type 0} (xs : List A) (y : A) (k : ℕ) → k < length xs → nth (xs ++ y ∷ []) k ≡ nth xs k
nth_front [] y k h = absurd (omega arith)
nth_front (x ∷ xs) y zero h = refl
nth_front (x ∷ xs) y (suc k) h = nth_front xs y k (omega arith)

pub nth_last : {A : Type 0} (xs : List A) (y : A) (k : ℕ) → k ≡ length xs → nth (xs ++ y ∷ []) k ≡ Some y
nth_last [] y zero h = refl
nth_last [] y (suc k) h = absurd (omega arith)
nth_last (x ∷ xs) y zero h = absurd (omega arith)
nth_last (x ∷ xs) y (suc k) h = nth_last xs y k (omega arith)

pub nth_within : {A : Type 0} (xs : List A) (k : ℕ) (x : A) → nth xs k ≡ Some x → k < length xs
nth_within [] k x e = absurd (no_some e)
nth_within (y ∷ xs) zero x e = omega arith
nth_within (y ∷ xs) (suc k) x e = (let h = nth_within xs k x e in omega arith)

pub nth_get : {A : Type 0} (xs : List A) (k : ℕ) (x : A) → nth xs k ≡ Some x → slice_get xs k ≡ Some x
nth_get [] k x e = absurd (no_some e)
nth_get (y ∷ xs) zero x e = e
nth_get (y ∷ xs) (suc k) x e = nth_get xs k x e

pub nth_found : {A : Type 0} (xs : List A) (k : ℕ) → k < length xs → (x : A) × (nth xs k ≡ Some x)
nth_found [] k lt = absurd (omega arith)
nth_found (y ∷ xs) zero lt = (y, refl)
nth_found (y ∷ xs) (suc k) lt = nth_found xs k (omega arith)

pub nth_map : {A B : Type 0} (f : A → B) (xs : List A) (k : ℕ) (x : A) (d : B) → nth xs k ≡ Some x → get_or (map f xs) k d ≡ f x
nth_map f [] k x d e = absurd (no_some e)
nth_map f (y ∷ xs) zero x d e = ap f (some_same e)
nth_map f (y ∷ xs) (suc k) x d e = nth_map f xs k x d e

pub one_contains : {A : Type 0} (x : A) → Contains (x ∷ []) x
one_contains x = (0, (let h : 0 < 1 = omega arith in h), refl)

pub gather_contains : {A B : Type 0} (f : A → List B) (xs : List A) (x : A) (y : B) → Contains xs x → Contains (f x) y → Contains (gather f xs) y
gather_contains f [] x y c d = absurd (let h = c.1 in omega arith)
gather_contains f (z ∷ xs) x y (zero, lt, e) d = Contains-append_left (f z) (gather f xs) y (subst (λ w. Contains (f w) y) (sym e) d)
gather_contains f (z ∷ xs) x y (suc k, lt, e) d = Contains-append_right (f z) (gather f xs) y (gather_contains f xs x y (k, (let h : k < length xs = omega arith in h), e) d)

pub each_get : {A : Type 0} (P : A → Type 0) (xs : List A) (i : ℕ) (x : A) → Each P xs → slice_get xs i ≡ Some x → P x
each_get P [] i x h e = absurd (no_some e)
each_get P (y ∷ xs) zero x h e = subst P (some_same e) h.0
each_get P (y ∷ xs) (suc i) x h e = each_get P xs i x h.1 e

pub each_at : {A : Type 0} (P : A → Type 0) (xs : List A) (k : ℕ) (d : A) → P d → Each P xs → P (get_or xs k d)
each_at P [] k d none h = none
each_at P (x ∷ xs) zero d none h = h.0
each_at P (x ∷ xs) (suc k) d none h = each_at P xs k d none h.1

pub each_take : {A : Type 0} (P : A → Type 0) (n : ℕ) (xs : List A) → Each P xs → Each P (take n xs)
each_take P zero xs h = tt
each_take P (suc n) [] h = tt
each_take P (suc n) (x ∷ xs) h = (h.0, each_take P n xs h.1)

pub each_in : {A : Type 0} (P Q : A → Type 0) (xs : List A) → ((x : A) → Contains xs x → P x → Q x) → Each P xs → Each Q xs
each_in P Q [] f h = tt
each_in P Q (x ∷ xs) f h = (f x (0, (let z : 0 < suc (length xs) = omega arith in z), refl) h.0, each_in P Q xs (λ y c. f y (suc c.0, (let z : c.0 < length xs = c.1 in let q : suc c.0 < suc (length xs) = omega arith in q), c.2)) h.1)

pub each_of : {A : Type 0} (Q : A → Type 0) (xs : List A) → ((x : A) → Contains xs x → Q x) → Each Q xs
each_of Q [] f = tt
each_of Q (x ∷ xs) f = (f x (0, (let z : 0 < suc (length xs) = omega arith in z), refl), each_of Q xs (λ y c. f y (suc c.0, (let z : c.0 < length xs = c.1 in let q : suc c.0 < suc (length xs) = omega arith in q), c.2)))

pub each_all : {A : Type 0} (P : A → Type 0) (xs : List A) → All P xs → Each P xs
each_all P xs all = each_of P xs (λ x c. All-contains P xs x all c)

pub each_map : {A : Type 0} (P Q : A → Type 0) (xs : List A) → ((x : A) → P x → Q x) → Each P xs → Each Q xs
each_map P Q [] f h = tt
each_map P Q (x ∷ xs) f h = (f x h.0, each_map P Q xs f h.1)

pub each_both : {A : Type 0} (P Q R : A → Type 0) (xs : List A) → ((x : A) → P x → Q x → R x) → Each P xs → Each Q xs → Each R xs
each_both P Q R [] f h g = tt
each_both P Q R (x ∷ xs) f h g = (f x h.0 g.0, each_both P Q R xs f h.1 g.1)
