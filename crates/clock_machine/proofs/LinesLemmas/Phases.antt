-- An operation comes to a time of its iteration in the cycles of this phase that are not before it.
use Rattle.std.proofs.Common.{◌≡◌, ◌≢◌, ℕ, ◌+◌, ◌-◌, ◌*◌, ◌/◌, ◌%◌, ◌<◌, ◌≤◌, true, false, inl, inr, sym, ap, ◌∙◌, subst, arith, div-add-mod'}
use Rattle.std.proofs.Math.Nat.{add-mul-mod_self_right, le_of_mul-le-mul_right}
use Rattle.std.proofs.lemmas.Bool.{cases_lt, cases_Bool}
use Rattle.clock_ir.specs.Flows.{is_at}
use Rattle.clock_machine.proofs.LinesLemmas.Cycles.{is_at_true, is_at_sure}

-- the number of the iteration that is there
iteration_at : (w t time : ℕ) → 0 < w → t % w ≡ time % w → t ≤ time → time ≡ t + (time / w - t / w) * w
iteration_at w t time some same le =
    let one = div-add-mod' t w in
    let two = div-add-mod' time w in
    let low : t / w ≤ time / w = le_of_mul-le-mul_right {m = t / w} {n = time / w} {k = w} (omega (arith, one, two, same, le)) some in
    let sum : (t / w + (time / w - t / w)) * w ≡ time / w * w = ap (λ x. x * w) (let z : t / w + (time / w - t / w) ≡ time / w = omega (arith, low) in z) in
    let split : (t / w + (time / w - t / w)) * w ≡ t / w * w + (time / w - t / w) * w = omega arith in
    omega (arith, one, two, same, sum, split)

pub comes : (w t time : ℕ) → 0 < w → t % w ≡ time % w → t ≤ time → is_at w t time ≡ true
comes w t time some same le = is_at_sure w some (time / w - t / w) t time (iteration_at w t time some same le)

pub has_come : (w t time : ℕ) → is_at w t time ≡ true → (t ≤ time) × (t % w ≡ time % w)
has_come w t time on =
    let at = is_at_true w t time on in (
      (let e = at.1 in omega (arith, e)),
      sym (ap (λ x. x % w) at.1 ∙ add-mul-mod_self_right t at.0 w),
    )

pub comes_not : (w t time : ℕ) → (t % w ≡ time % w → ⊥) → is_at w t time ≡ false
comes_not w t time differ = elim (cases_Bool (is_at w t time)) [
  | inl on ↦ absurd (differ (has_come w t time on).1)
  | inr off ↦ off
]

pub not_yet : (w t time : ℕ) → time < t → is_at w t time ≡ false
not_yet w t time early = elim (cases_Bool (is_at w t time)) [
  | inl on ↦ (let le = (has_come w t time on).0 in absurd (omega (arith, early, le)))
  | inr off ↦ off
]

-- ---- operations that are gone through, from one of a phase to the next one

-- the operations before this one are done, and the others are not yet
abbrev pub Walked : (ℕ → Type 0) → (ℕ → Type 0) → ℕ → Type 0
Walked Done Open k = (i : ℕ) → (i < k → Done i) × (k ≤ i → Open i)

-- Behind operation k comes the next one; those between them have nothing to do.
pub walks_on : (Done Open Done2 Open2 : ℕ → Type 0) (k n : ℕ) → Walked Done Open k → k < n
    → ((i : ℕ) → i ≢ k → Done i → Done2 i) → ((i : ℕ) → i ≢ k → Open i → Open2 i) → (Open k → Done2 k) → ((i : ℕ) → k < i → i < n → Open2 i → Done2 i) → Walked Done2 Open2 n
walks_on Done Open Done2 Open2 k n so_far more keeps waits does rests = λ i. (
  λ before. elim (cases_lt i k) [
    | inl less ↦ keeps i (λ e. absurd (omega (arith, e, less))) ((so_far i).0 less)
    | inr from_ ↦ elim (cases_lt k i) [
      | inl behind ↦ rests i behind before (waits i (λ e. absurd (omega (arith, e, behind))) ((so_far i).1 from_))
      | inr no_ ↦ (let same : k ≡ i = omega (arith, from_, no_) in subst Done2 same (does ((so_far k).1 (omega arith))))
    ]
  ],
  λ behind. waits i (λ e. absurd (omega (arith, e, behind, more))) ((so_far i).1 (omega (arith, behind, more))),
)
