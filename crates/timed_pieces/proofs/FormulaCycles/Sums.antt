-- Sums over the points of a trace, and over the nodes of a program.
use Rattle.std.proofs.Common.{◌≡◌, ◌≢◌, ◌∙◌, ℕ, zero, suc, ◌+◌, ◌*◌, refl, ap, true, false, Bool, List, [], ◌∷◌, ◌++◌, length, arith}
use Rattle.std.specs.Prelude.{slice_get, Some, if◌then◌else◌}
use Rattle.std.specs.List.{sum_by}
use Rattle.std.proofs.lemmas.List.Sums.{sum_by-cons}
use Rattle.hls_base.specs.declared.point.Point.{Point}
use Rattle.hls_base.specs.Tallies.{same_point}
use Rattle.hls_base.proofs.SamePoints.{same_point-Decides}
use Rattle.c_meaning.specs.Points.{times}
use Rattle.cycle_report.specs.declared.report.Cost.{Cost}
use Rattle.report_rows.specs.Costs.{weighed}

-- ---- one element alone

module _ {A : Type 0} (f : A → ℕ) where
  pub all_zero : (xs : List A) → ((j : ℕ) (y : A) → slice_get xs j ≡ Some y → f y ≡ 0) → sum_by f xs ≡ 0
  all_zero [] h = refl
  all_zero (x ∷ xs) h = omega (arith, sum_by-cons f x xs, h 0 x refl, all_zero xs (λ j. h (suc j)))

  pub only_one : (xs : List A) (i : ℕ) (x : A) → slice_get xs i ≡ Some x → ((j : ℕ) (y : A) → slice_get xs j ≡ Some y → j ≢ i → f y ≡ 0) → sum_by f xs ≡ f x
  only_one [] i x e h = absurd (cc)
  only_one (y ∷ xs) zero x e h =
      let same : f y ≡ f x = ap f (cc) in
      omega (arith, sum_by-cons f y xs, same, all_zero xs (λ j z at. h (suc j) z at (λ q. omega (arith, q))))
  only_one (y ∷ xs) (suc i) x e h =
      omega (arith, sum_by-cons f y xs, h 0 y refl (λ q. omega (arith, q)), only_one xs i x e (λ j z at other. h (suc j) z at (λ q. other (omega (arith, q)))))

pub sum_same : {A : Type 0} (f g : A → ℕ) → ((x : A) → f x ≡ g x) → (xs : List A) → sum_by f xs ≡ sum_by g xs
sum_same f g h [] = refl
sum_same f g h (x ∷ xs) = omega (arith, sum_by-cons f x xs, sum_by-cons g x xs, h x, sum_same f g h xs)

pub sum_plus : {A : Type 0} (f g : A → ℕ) (xs : List A) → sum_by (λ x. f x + g x) xs ≡ sum_by f xs + sum_by g xs
sum_plus f g [] = refl
sum_plus f g (x ∷ xs) = omega (arith, sum_by-cons (λ y. f y + g y) x xs, sum_by-cons f x xs, sum_by-cons g x xs, sum_plus f g xs)

-- ---- traces

-- each point of the trace is this one
abbrev pub Stays : Point → List Point → Type 0
Stays p [] = Unit {0}
Stays p (q ∷ trace) = (q ≡ p) × Stays p trace

pub stays_on : (p : Point) (xs ys : List Point) → Stays p xs → Stays p ys → Stays p (xs ++ ys)
stays_on p [] ys h k = k
stays_on p (x ∷ xs) ys h k = (h.0, stays_on p xs ys h.1 k)

pub stays_sum : (f : Point → ℕ) (p : Point) (trace : List Point) → Stays p trace → sum_by f trace ≡ f p * length trace
stays_sum f p [] h = omega arith
stays_sum f p (q ∷ trace) h =
    let same : f q ≡ f p = ap f h.0 in
    omega (arith, sum_by-cons f q trace, same, stays_sum f p trace h.1)

-- ---- costs, point by point

abbrev pub once : Point → Point → ℕ
once q p = times (q ∷ []) p

abbrev one_if : Bool → ℕ
one_if b = if b then 0 + 1 else 0

pub once_same : (p q : Point) → q ≡ p → once q p ≡ 1
once_same p q e = ap one_if ((same_point-Decides q p).1 e)

once_as : (b : Bool) → b ≢ true → one_if b ≡ 0
once_as true h = absurd (h refl)
once_as false h = refl

pub once_other : (p q : Point) → q ≢ p → once q p ≡ 0
once_other p q h = once_as (same_point q p) (λ e. h ((same_point-Decides q p).0 e))

more_by : (b : Bool) (n : ℕ) → (if b then n + 1 else n) ≡ one_if b + n
more_by true n = omega arith
more_by false n = omega arith

times_more : (q : Point) (trace : List Point) (p : Point) → times (q ∷ trace) p ≡ once q p + times trace p
times_more q trace p = more_by (same_point q p) (times trace p)

abbrev pub cost_at : List Cost → Point → ℕ
cost_at costs q = weighed (once q) costs

cost_none : (costs : List Cost) → weighed (times []) costs ≡ 0
cost_none costs = all_zero (λ (c : Cost). c.cost * 0) costs (λ j y e. omega arith)

spread : (c n m k : ℕ) → n ≡ m + k → c * n ≡ c * m + c * k
spread c n m k e = ap (λ z. c * z) e ∙ (let z : c * (m + k) ≡ c * m + c * k = omega arith in z)

pub by_points : (costs : List Cost) (trace : List Point) → weighed (times trace) costs ≡ sum_by (cost_at costs) trace
by_points costs [] = cost_none costs
by_points costs (q ∷ trace) =
    omega (
      arith,
      sum_same (λ (c : Cost). c.cost * times (q ∷ trace) c.point) (λ (c : Cost). c.cost * once q c.point + c.cost * times trace c.point) (λ c. spread c.cost (times (q ∷ trace) c.point) (once q c.point) (times trace c.point) (times_more q trace c.point)) costs,
      sum_plus (λ (c : Cost). c.cost * once q c.point) (λ (c : Cost). c.cost * times trace c.point) costs,
      sum_by-cons (cost_at costs) q trace,
      by_points costs trace,
    )
