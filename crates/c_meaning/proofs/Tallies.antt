-- What the counts of a trace say: C points passed so often, each listed once.
use Rattle.std.proofs.Common.{◌≡◌, ◌≢◌, ℕ, ◌+◌, ◌∙◌, sym, refl, ap, subst, ◌⊎◌, inl, inr, List, [], ◌∷◌, ◌++◌, map, length, Bool, true, false, ◌&&◌, arith, Decides, if◌then◌else◌, true≢false}
use Rattle.std.specs.Prelude.{sum_by, ◌==◌}
use Rattle.std.specs.List.{All}
use Rattle.std.proofs.lemmas.List.Elements.{All-nil, All-cons}
use Rattle.std.proofs.lemmas.List.Sums.{sum_by-cons}
use Rattle.std.proofs.lemmas.Bool.{cases_Bool}
use Rattle.std.proofs.lemmas.Bool.Decides.{Decides-and, Decides-eqb}
use Rattle.hls_base.specs.declared.place.Place.{Place}
use Rattle.hls_base.specs.declared.point.Point.{Point}
use Rattle.hls_base.specs.declared.point.PointKind.{PointKind}
use Rattle.hls_base.specs.declared.point.PointKind.TheVariants as point
use Rattle.hls_base.specs.Tallies.{HasDistinctPoints, same_point, count_in}
use Rattle.hls_base.proofs.SamePoints.{same_point-Decides, same_point-self, same_point-other}
use Rattle.c_meaning.proofs.DistinctPoints.{distinct-push, distinct-same}
use Rattle.c_meaning.specs.Points.{count_point, count_all, tally_of, times}
use Rattle.c_meaning.specs.Laws.{TalliesCount}

-- ---- one point more

count_all-more : (trace : List Point) (p : Point) (counts : List (Point × ℕ)) → count_all (trace ++ p ∷ []) counts ≡ count_point p (count_all trace counts)
count_all-more [] p counts = refl
count_all-more (q ∷ trace) p counts = count_all-more trace p (count_point q counts)

-- the counts of a trace and one point more
pub tally_of-more : (trace : List Point) (p : Point) → tally_of (trace ++ p ∷ []) ≡ count_point p (tally_of trace)
tally_of-more trace p = count_all-more trace p []

-- ---- each point is listed once

abbrev first : Point × ℕ → Point
first c = c.0

-- a point that is listed gets one more, and another one is listed last
points-count : (p : Point) (counts : List (Point × ℕ)) → (map first (count_point p counts) ≡ map first counts) ⊎ ((count_point p counts ≡ counts ++ (p, 1) ∷ []) × All (λ (c : Point × ℕ). c.0 ≢ p) counts)
points-count p [] = inr (refl, All-nil (λ (c : Point × ℕ). c.0 ≢ p))
points-count p (c ∷ counts) =
    elim (cases_Bool (same_point c.0 p)) [
      | inl t ↦ inl (rw t refl)
      | inr f ↦ elim (points-count p counts) [
        | inl e ↦ inl (rw f (ap (λ ps. c.0 ∷ ps) e))
        | inr n ↦
            let other : c.0 ≢ p = λ e. true≢false (sym ((same_point-Decides c.0 p).1 e) ∙ f) in
            inr (rw f (ap (λ cs. c ∷ cs) n.0), All-cons (λ (c : Point × ℕ). c.0 ≢ p) c counts other n.1)
      ]
    ]

pub distinct-count : (p : Point) (counts : List (Point × ℕ)) → HasDistinctPoints counts → HasDistinctPoints (count_point p counts)
distinct-count p counts distinct =
    elim (points-count p counts) [
      | inl e ↦ distinct-same counts (count_point p counts) e distinct
      | inr n ↦ subst HasDistinctPoints (sym n.0) (distinct-push counts (p, 1) distinct n.1)
    ]

distinct-count_all : (trace : List Point) (counts : List (Point × ℕ)) → HasDistinctPoints counts → HasDistinctPoints (count_all trace counts)
distinct-count_all [] counts distinct = distinct
distinct-count_all (p ∷ trace) counts distinct = distinct-count_all trace (count_point p counts) (distinct-count p counts distinct)

pub distinct-none : HasDistinctPoints []
distinct-none i j p q ei ej same = absurd cc

-- the counts of a trace list each point once
pub distinct-tally_of : (trace : List Point) → HasDistinctPoints (tally_of trace)
distinct-tally_of trace = distinct-count_all trace [] distinct-none

-- ---- how often a point is listed

once : Point → Point → ℕ
once q p = if same_point q p then 1 else 0

count_in-count_point : (q : Point) (counts : List (Point × ℕ)) (p : Point) → count_in (count_point q counts) p ≡ count_in counts p + once q p
unfolding once
count_in-count_point q [] p = elim (cases_Bool (same_point q p)) [ inl t ↦ rw t refl | inr f ↦ rw f refl ]
count_in-count_point q (c ∷ counts) p =
    elim (cases_Bool (same_point c.0 q)) [
      | inl t ↦
          let e : c.0 ≡ q = (same_point-Decides c.0 q).0 t in
          elim (cases_Bool (same_point q p)) [
            | inl u ↦ let v : same_point c.0 p ≡ true = ap (λ r. same_point r p) e ∙ u in rw (t, u, v) refl
            | inr g ↦ let v : same_point c.0 p ≡ false = ap (λ r. same_point r p) e ∙ g in rw (t, g, v) (omega arith)
          ]
      | inr f ↦ elim (cases_Bool (same_point c.0 p)) [
        | inl u ↦
            let e : c.0 ≡ p = (same_point-Decides c.0 p).0 u in
            let g : same_point q p ≡ false = same_point-other q p (λ h. true≢false (sym ((same_point-Decides c.0 q).1 (e ∙ sym h)) ∙ f)) in
            rw (f, u, g) (omega arith)
        | inr g ↦ rw (f, g) (count_in-count_point q counts p)
      ]
    ]

count_in-count_all : (trace : List Point) (counts : List (Point × ℕ)) (p : Point) → count_in (count_all trace counts) p ≡ count_in counts p + times trace p
unfolding once
count_in-count_all [] counts p = omega arith
count_in-count_all (q ∷ trace) counts p =
    let h = count_in-count_all trace (count_point q counts) p in
    let one = count_in-count_point q counts p in
    elim (cases_Bool (same_point q p)) [
      | inl t ↦ rw t (let o : count_in (count_point q counts) p ≡ count_in counts p + 1 = rw t at one in omega (arith, h, o))
      | inr f ↦ rw f (let o : count_in (count_point q counts) p ≡ count_in counts p + 0 = rw f at one in omega (arith, h, o))
    ]

-- The count of a point is how often it stands in the trace.
pub count_in-tally_of : (trace : List Point) (p : Point) → count_in (tally_of trace) p ≡ times trace p
count_in-tally_of trace p = omega (arith, count_in-count_all trace [] p)

-- ---- all counts together

abbrev second : Point × ℕ → ℕ
second c = c.1

sum-count_point : (p : Point) (counts : List (Point × ℕ)) → sum_by second (count_point p counts) ≡ sum_by second counts + 1
sum-count_point p [] = refl
sum-count_point p (c ∷ counts) =
    elim (cases_Bool (same_point c.0 p)) [
      | inl t ↦ rw t (omega (arith, sum_by-cons second (c.0, c.1 + 1) counts, sum_by-cons second c counts))
      | inr f ↦ rw f (omega (arith, sum-count_point p counts, sum_by-cons second c (count_point p counts), sum_by-cons second c counts))
    ]

sum-count_all : (trace : List Point) (counts : List (Point × ℕ)) → sum_by second (count_all trace counts) ≡ sum_by second counts + length trace
sum-count_all [] counts = omega arith
sum-count_all (p ∷ trace) counts = omega (arith, sum-count_all trace (count_point p counts), sum-count_point p counts)

-- the counts of a trace add up to its length
pub sum-tally_of : (trace : List Point) → sum_by second (tally_of trace) ≡ length trace
sum-tally_of trace = omega (arith, sum-count_all trace [])

pub tallies_count : TalliesCount
tallies_count trace = record { distinct = distinct-tally_of trace; count = λ p. count_in-tally_of trace p; sum = sum-tally_of trace }
