-- Which iteration is at which of its times.
use Rattle.std.proofs.Common.{◌≡◌, ℕ, suc, ◌+◌, ◌-◌, ◌*◌, ◌/◌, ◌%◌, ◌<◌, ◌≤◌, true, false, leb, eqb, inl, inr, sym, ap, ◌∙◌, arith, div-add-mod', suc-mul, mul-le-mul_right, lt_of_mul-lt-mul_right}
use Rattle.std.proofs.lemmas.Bool.{cases_lt, and_from, and_parts, and_cases, le-leb, leb-true, leb-false, eq-eqb, eqb-true, eqb-false}
use Rattle.std.proofs.lemmas.Nat.{div-mul-add}
use Rattle.clock_ir.specs.Flows.{is_at, place}

pub quotient : (x q w r : ℕ) → x ≡ q * w + r → r < w → x / w ≡ q
quotient x q w r e h = ap (λ y. y / w) e ∙ div-mul-add q w r h

-- how many values came by this time, where one comes each w cycles from time a on
abbrev pub count : ℕ → ℕ → ℕ → ℕ
count w a time = (time + w - a) / w

-- the iteration that is at its time t
abbrev pub turn : ℕ → ℕ → ℕ → ℕ
turn w t time = (time - t) / w

pub turn_sure : (w : ℕ) → 0 < w → (i t time : ℕ) → time ≡ i * w + t → turn w t time ≡ i
turn_sure w h i t time e = quotient (time - t) i w 0 (omega arith) h

pub is_at_sure : (w : ℕ) → 0 < w → (i t time : ℕ) → time ≡ i * w + t → is_at w t time ≡ true
is_at_sure w h i t time e =
    let q : (time - t) / w ≡ i = turn_sure w h i t time e in
    let d = div-add-mod' (time - t) w in
    let d' : i * w + (time - t) % w ≡ time - t = ap (λ x. x * w + (time - t) % w) (sym q) ∙ d in
    and_from _ _ (le-leb t time (omega arith)) (eq-eqb ((time - t) % w) 0 (omega arith))

pub is_at_true : (w t time : ℕ) → is_at w t time ≡ true → time ≡ turn w t time * w + t
is_at_true w t time h =
    let parts = and_parts (leb t time) (eqb ((time - t) % w) 0) h in
    let low = leb-true t time parts.0 in
    let none = eqb-true ((time - t) % w) 0 parts.1 in
    let d = div-add-mod' (time - t) w in
    omega arith

pub count_more : (w a q time : ℕ) → 0 < w → suc time ≡ q * w + a → (count w a (suc time) ≡ suc q) × (count w a time ≡ q)
count_more w a q time h e = (
  quotient (suc time + w - a) (suc q) w 0 (rw suc-mul (omega arith)) h,
  quotient (time + w - a) q w (w - 1) (omega arith) (omega arith),
)

pub count_same : (w a time : ℕ) → 0 < w → is_at w a (suc time) ≡ false → count w a (suc time) ≡ count w a time
count_same w a time h off =
    elim (cases_lt (suc time) a) [
      | inl before ↦
          quotient (suc time + w - a) 0 w (suc time + w - a) (omega arith) (omega arith)
          ∙ sym (quotient (time + w - a) 0 w (time + w - a) (omega arith) (omega arith))
      | inr later ↦
          elim (and_cases (leb a (suc time)) (eqb ((suc time - a) % w) 0) off) [
            | inl no_ ↦ absurd (let k = leb-false a (suc time) no_ in omega arith)
            | inr no_ ↦
                let some : (suc time - a) % w ≡ 0 → ⊥ = eqb-false ((suc time - a) % w) 0 no_ in
                let d = div-add-mod' (suc time - a) w in
                let small : (suc time - a) % w < w = omega arith in
                let q = (suc time - a) / w in
                let r = (suc time - a) % w in
                quotient (suc time + w - a) (suc q) w r (rw suc-mul (omega arith)) small
                ∙ sym (quotient (time + w - a) (suc q) w (r - 1) (rw suc-mul (omega arith)) (omega arith))
          ]
    ]

-- what a use finds in its place
pub place_same : (w a t i : ℕ) → 0 < w → a ≤ t → count w a (i * w + t) ≡ i + suc (place w a t 0)
place_same w a t i h le =
    let q = (t - a) / w in
    let r = (t - a) % w in
    let d : q * w + r ≡ t - a = div-add-mod' (t - a) w in
    let small : r < w = omega arith in
    let there : place w a t 0 ≡ q = ap (λ x. x / w) (let z : t + 0 * w - a ≡ t - a = omega arith in z) in
    quotient (i * w + t + w - a) (i + suc q) w r (let e : (i + suc q) * w ≡ i * w + w + q * w = omega arith in omega arith) small
    ∙ sym (ap (λ x. i + suc x) there)

pub place_before : (w a t i : ℕ) → 0 < w → a ≤ t + w → count w a (i * w + t) ≡ i + place w a t 1
place_before w a t i h le =
    let q = (t + w - a) / w in
    let r = (t + w - a) % w in
    let d : q * w + r ≡ t + w - a = div-add-mod' (t + w - a) w in
    let small : r < w = omega arith in
    let there : place w a t 1 ≡ q = ap (λ x. x / w) (let z : t + 1 * w - a ≡ t + w - a = omega arith in z) in
    quotient (i * w + t + w - a) (i + q) w r (let e : (i + q) * w ≡ i * w + q * w = omega arith in omega arith) small
    ∙ sym (ap (λ x. i + x) there)

-- iterations keep their order
pub later_turn : (w i j : ℕ) → i ≤ j → i * w ≤ j * w
later_turn w i j h = mul-le-mul_right w h

pub earlier_turn : (w i j : ℕ) → i * w < j * w → i < j
earlier_turn w i j h = lt_of_mul-lt-mul_right w h
