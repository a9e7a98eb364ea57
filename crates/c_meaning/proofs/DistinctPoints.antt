-- Points that stay distinct where one is added, or where the counts change.
use Rattle.std.proofs.Common.{◌≡◌, ◌≢◌, ℕ, zero, suc, ◌<◌, ◌∙◌, sym, refl, ap, subst, ◌⊎◌, inl, inr, List, [], ◌∷◌, ◌++◌, map, length, Option, Some, None, arith, length-append}
use Rattle.std.specs.List.{All, slice_get}
use Rattle.std.specs.Option.{option_map}
use Rattle.std.proofs.lemmas.List.Elements.{All-head, All-tail}
use Rattle.std.proofs.lemmas.Bool.{cases_lt}
use Rattle.std.proofs.lemmas.Option.{slice_get_within, slice_get-map}
use Rattle.hls_base.specs.declared.point.Point.{Point}
use Rattle.hls_base.specs.Tallies.{HasDistinctPoints}

abbrev Row : Type 0
Row = Point × ℕ

front : (xs ys : List Row) (i : ℕ) → i < length xs → slice_get (xs ++ ys) i ≡ slice_get xs i
front [] ys i h = absurd (omega arith)
front (x ∷ xs) ys zero h = refl
front (x ∷ xs) ys (suc i) h = front xs ys i (omega arith)

back : (xs : List Row) (y : Row) (i : ℕ) → i ≡ length xs → slice_get (xs ++ y ∷ []) i ≡ Some y
back [] y zero e = refl
back [] y (suc i) e = absurd (omega arith)
back (x ∷ xs) y zero e = absurd (omega arith)
back (x ∷ xs) y (suc i) e = back xs y i (omega arith)

some_same : (x y : Row) → Some x ≡ Some y → x ≡ y
some_same x y e = cc

absent_at : (xs : List Row) (p : Point) (i : ℕ) (x : Row) → All (λ (c : Row). c.0 ≢ p) xs → slice_get xs i ≡ Some x → x.0 ≢ p
absent_at [] p i x all e = cc
absent_at (y ∷ xs) p zero x all e = let P : Row → Type 0 = λ (c : Row). c.0 ≢ p in subst P (some_same y x e) (All-head P y xs all)
absent_at (y ∷ xs) p (suc i) x all e = let P : Row → Type 0 = λ (c : Row). c.0 ≢ p in absent_at xs p i x (All-tail P y xs all) e

inside : (xs : List Row) (y : Row) (i : ℕ) (x : Row) → slice_get (xs ++ y ∷ []) i ≡ Some x → ((i < length xs) × (slice_get xs i ≡ Some x)) ⊎ ((i ≡ length xs) × (x ≡ y))
inside xs y i x e =
    let within = slice_get_within (xs ++ y ∷ []) i x e in
    elim (cases_lt i (length xs)) [
      | inl lt ↦ inl (lt, sym (front xs (y ∷ []) i lt) ∙ e)
      | inr le ↦ let at_end : i ≡ length xs = omega (arith, length-append xs (y ∷ [])) in inr (at_end, sym (some_same y x (sym (back xs y i at_end) ∙ e)))
    ]

pub distinct-push : (xs : List Row) (y : Row) → HasDistinctPoints xs → All (λ (c : Row). c.0 ≢ y.0) xs → HasDistinctPoints (xs ++ y ∷ [])
distinct-push xs y distinct absent i j p q ei ej same =
    elim (inside xs y i p ei) [
      | inl a ↦ elim (inside xs y j q ej) [
        | inl b ↦ distinct i j p q a.1 b.1 same
        | inr b ↦ absurd (absent_at xs y.0 i p absent a.1 (same ∙ ap (λ (r : Row). r.0) b.1))
      ]
      | inr a ↦ elim (inside xs y j q ej) [
        | inl b ↦ absurd (absent_at xs y.0 j q absent b.1 (sym same ∙ ap (λ (r : Row). r.0) a.1))
        | inr b ↦ a.0 ∙ sym b.0
      ]
    ]

-- counts may change where the points stay
old_row : (o : Option Row) (p : Point) → Some p ≡ option_map (λ (r : Row). r.0) o → (x : Row) × (o ≡ Some x) × (x.0 ≡ p)
old_row None p e = absurd (cc)
old_row (Some x) p e = (x, refl, cc)

pub distinct-same : (xs ys : List Row) → map (λ (r : Row). r.0) ys ≡ map (λ (r : Row). r.0) xs → HasDistinctPoints xs → HasDistinctPoints ys
distinct-same xs ys e distinct i j p q ei ej same =
    let fst : Row → Point = λ (r : Row). r.0 in
    let pi : Some p.0 ≡ option_map fst (slice_get xs i) = ap (option_map fst) (sym ei) ∙ sym (slice_get-map fst ys i) ∙ ap (λ l. slice_get l i) e ∙ slice_get-map fst xs i in
    let pj : Some q.0 ≡ option_map fst (slice_get xs j) = ap (option_map fst) (sym ej) ∙ sym (slice_get-map fst ys j) ∙ ap (λ l. slice_get l j) e ∙ slice_get-map fst xs j in
    let oi = old_row (slice_get xs i) p.0 pi in
    let oj = old_row (slice_get xs j) q.0 pj in
    distinct i j oi.0 oj.0 oi.1 oj.1 (oi.2 ∙ same ∙ sym oj.2)
