-- An operation that makes an out too is otherwise the same.
use Rattle.std.proofs.Common.{◌≡◌, ◌∙◌, ◌⊎◌, inl, inr, ℕ, zero, suc, Bool, true, false, ◌||◌, refl, ap, sym, List, [], ◌∷◌, Some}
use Rattle.std.specs.Prelude.{slice_get}
use Rattle.passes.specs.Numbering.{Kept, with_out}

pub one_of : (a b : Bool) → (a || b) ≡ true → (a ≡ true) ⊎ (b ≡ true)
one_of true b e = inl refl
one_of false b e = inr e

pub or_left : (a b : Bool) → a ≡ true → (a || b) ≡ true
or_left a b e = ap (λ c. c || b) e

pub or_right : (a b : Bool) → b ≡ true → (a || b) ≡ true
or_right true b e = refl
or_right false b e = e

same_kept : (x y : Kept) → Some x ≡ Some y → x ≡ y
same_kept x y e = cc

-- the operation of number i before that of number j makes an out too
pub record Before (is_out : Bool) (ks : List Kept) (j i : ℕ) (k : Kept) : Type 0 where
  pub kept : Kept
  pub at : slice_get ks i ≡ Some kept
  pub op : kept.op ≡ k.op
  pub more : kept.makes_out ≡ true → k.makes_out ≡ true
  pub reason : k.makes_out ≡ true → (kept.makes_out ≡ true) ⊎ ((j ≡ i) × (is_out ≡ true))

unchanged : (is_out : Bool) (ks : List Kept) (j i : ℕ) (k : Kept) → slice_get ks i ≡ Some k → Before is_out ks j i k
unchanged is_out ks j i k e = record { kept = k; at = e; op = refl; more = λ t. t; reason = λ t. inl t }

with_place : (a b : Bool) (j : ℕ) → (a ≡ true) ⊎ (b ≡ true) → (a ≡ true) ⊎ ((j ≡ j) × (b ≡ true))
with_place a b j (inl h) = inl h
with_place a b j (inr h) = inr (refl, h)

changed : (is_out : Bool) (x : Kept) (ks : List Kept) (k : Kept) → record x { makes_out = x.makes_out || is_out } ≡ k → Before is_out (x ∷ ks) 0 0 k
changed is_out x ks k p = record {
  kept = x;
  at = refl;
  op = ap (λ (y : Kept). y.op) p;
  more = λ t. sym (ap (λ (y : Kept). y.makes_out) p) ∙ or_left x.makes_out is_out t;
  reason = λ t. with_place x.makes_out is_out 0 (one_of x.makes_out is_out (ap (λ (y : Kept). y.makes_out) p ∙ t));
}

later : (is_out : Bool) (x : Kept) (ks : List Kept) (j i : ℕ) (k : Kept) → Before is_out ks j i k → Before is_out (x ∷ ks) (suc j) (suc i) k
later is_out x ks j i k h = record { kept = h.kept; at = h.at; op = h.op; more = h.more; reason = λ t. by (h.reason t) } where
  by : (h.kept.makes_out ≡ true) ⊎ ((j ≡ i) × (is_out ≡ true)) → (h.kept.makes_out ≡ true) ⊎ ((suc j ≡ suc i) × (is_out ≡ true))
  by (inl e) = inl e
  by (inr e) = inr (ap suc e.0, e.1)

pub before_marking : (is_out : Bool) (ks : List Kept) (j i : ℕ) (k : Kept) → slice_get (with_out is_out ks j) i ≡ Some k → Before is_out ks j i k
before_marking is_out [] j i k e = absurd cc
before_marking is_out (x ∷ ks) zero zero k e = changed is_out x ks k (same_kept (record x { makes_out = x.makes_out || is_out }) k e)
before_marking is_out (x ∷ ks) zero (suc i) k e = unchanged is_out (x ∷ ks) 0 (suc i) k e
before_marking is_out (x ∷ ks) (suc j) zero k e = unchanged is_out (x ∷ ks) (suc j) 0 k e
before_marking is_out (x ∷ ks) (suc j) (suc i) k e = later is_out x ks j i k (before_marking is_out ks j i k e)
