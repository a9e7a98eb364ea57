-- When iterations are at their times, and how many tests were made by then.
use Rattle.std.proofs.Common.{◌≡◌, ℕ, suc, ◌+◌, ◌-◌, ◌*◌, ◌/◌, ◌%◌, ◌<◌, ◌≤◌, Bool, true, false, ◌&&◌, refl, sym, ap, ap₂, ◌∙◌, subst, inl, inr, arith, div-add-mod', mod-eq_of_lt}
use Rattle.std.specs.Prelude.{◌==◌, ◌||◌, nat_le}
use Rattle.std.proofs.lemmas.Bool.{cases_lt, and_from, and_parts, or_right, le-leb, lt-leb, leb-true, eq-eqb, eqb-true, false≢true, false_from_ne_true}
use Rattle.std.proofs.lemmas.Nat.{mod-mul-add, mod_below}
use Rattle.clock_ir.specs.Flows.{is_at, place}
use Rattle.clock_runs.proofs.Numbers.{quotient, count, turn, is_at_sure, is_at_true, count_more, count_same, place_same, later_turn, earlier_turn}

-- ---- tests that agree

pub agree : (a b : Bool) → (a ≡ true → b ≡ true) → (b ≡ true → a ≡ true) → a ≡ b
agree true b f g = sym (f refl)
agree false b f g = sym (false_from_ne_true b (λ e. false≢true (g e)))

pub le_agree : (a b m n : ℕ) → (a ≤ b → m ≤ n) → (m ≤ n → a ≤ b) → nat_le a b ≡ nat_le m n
le_agree a b m n f g = agree (nat_le a b) (nat_le m n) (λ e. le-leb m n (f (leb-true a b e))) (λ e. le-leb a b (g (leb-true m n e)))

-- ---- the counter of a node's time

-- the counter shows the same for this time and the other one
abbrev pub shows : ℕ → ℕ → ℕ → Bool
shows w now t = nat_le w 1 || (now == t % w)

-- a remainder by 1
no_rest : (w n : ℕ) → 0 < w → w ≤ 1 → n % w ≡ 0
no_rest w n some small = let b = mod_below n w some in omega (arith, b, small)

pub shown : (w t time : ℕ) → 0 < w → shows w (time % w) t ≡ true → time % w ≡ t % w
shown w t time some e =
    elim (cases_lt 1 w) [
      | inl wide ↦ eqb-true (time % w) (t % w) (subst (λ b. (b || (time % w == t % w)) ≡ true) (lt-leb w 1 wide) e)
      | inr small ↦ no_rest w time some small ∙ sym (no_rest w t some small)
    ]

pub shown_from : (w t time : ℕ) → time % w ≡ t % w → shows w (time % w) t ≡ true
shown_from w t time e = or_right (nat_le w 1) (time % w == t % w) (eq-eqb (time % w) (t % w) e)

-- some iteration is at this time where the counter shows it, and so many intervals have passed
pub is_at_shown : (w t time : ℕ) → 0 < w → (shows w (time % w) t && nat_le (t / w * w) time) ≡ is_at w t time
is_at_shown w t time some = agree _ _ there back
  where
    there : (shows w (time % w) t && nat_le (t / w * w) time) ≡ true → is_at w t time ≡ true
    there e =
        let parts = and_parts (shows w (time % w) t) (nat_le (t / w * w) time) e in
        let same : time % w ≡ t % w = shown w t time some parts.0 in
        let passed : t / w * w ≤ time = leb-true (t / w * w) time parts.1 in
        let d : t / w * w + t % w ≡ t = div-add-mod' t w in
        let d' : time / w * w + time % w ≡ time = div-add-mod' time w in
        let small : time % w < w = mod_below time w some in
        let more : suc (time / w) * w ≡ time / w * w + w = omega arith in
        let less : t / w * w < suc (time / w) * w = omega (arith, passed, d', small, more) in
        let early : t / w < suc (time / w) = earlier_turn w (t / w) (suc (time / w)) less in
        let i : ℕ = time / w - t / w in
        let split : time / w ≡ t / w + i = omega (arith, early) in
        let product : time / w * w ≡ t / w * w + i * w = ap (λ n. n * w) split ∙ (let z : (t / w + i) * w ≡ t / w * w + i * w = omega arith in z) in
        is_at_sure w some i t time (omega (arith, d, d', same, product))

    back : is_at w t time ≡ true → (shows w (time % w) t && nat_le (t / w * w) time) ≡ true
    back e =
        let i : ℕ = turn w t time in
        let at : time ≡ i * w + t = is_at_true w t time e in
        let d : t / w * w + t % w ≡ t = div-add-mod' t w in
        let sum : (i + t / w) * w ≡ i * w + t / w * w = omega arith in
        let whole : time ≡ (i + t / w) * w + t % w = omega (arith, at, d, sum) in
        let same : time % w ≡ t % w = ap (λ n. n % w) whole ∙ mod-mul-add (i + t / w) w (t % w) (mod_below t w some) in
        and_from _ _ (shown_from w t time same) (le-leb (t / w * w) time (omega (arith, at, d)))

-- ---- intervals that have passed

-- one more where an interval ends
pub passes_on : (w n time : ℕ) → 0 < w → shows w (time % w) (w - 1) ≡ true → nat_le (n * w) time ≡ nat_le (suc n * w) (suc time)
passes_on w n time some e =
    let last : (w - 1) % w ≡ w - 1 = mod-eq_of_lt (omega (arith, some)) in
    let same : time % w ≡ w - 1 = shown w (w - 1) time some e ∙ last in
    let d : time / w * w + time % w ≡ time = div-add-mod' time w in
    let q : ℕ = time / w in
    let more : suc q * w ≡ q * w + w = omega arith in
    let more_n : suc n * w ≡ n * w + w = omega arith in
    le_agree (n * w) time (suc n * w) (suc time)
    (λ le.
    let less : n * w < suc q * w = omega (arith, le, d, same, more, some) in
    let early : n < suc q = earlier_turn w n (suc q) less in
    let far : suc n * w ≤ suc q * w = later_turn w (suc n) (suc q) early in
    omega (arith, far, d, same, more, some))
    (λ le. omega (arith, le, more_n, some))

-- and else none
pub stays_passed : (w n time : ℕ) → 0 < w → shows w (time % w) (w - 1) ≡ false → nat_le (suc n * w) time ≡ nat_le (suc n * w) (suc time)
stays_passed w n time some e =
    let more_n : suc n * w ≡ n * w + w = omega arith in
    le_agree (suc n * w) time (suc n * w) (suc time) (λ le. omega (arith, le))
    (λ le. elim (cases_lt time (suc n * w)) [
      | inl before ↦
          let whole : time ≡ n * w + (w - 1) = omega (arith, before, le, more_n, some) in
          let last : (w - 1) % w ≡ w - 1 = mod-eq_of_lt (omega (arith, some)) in
          let same : time % w ≡ (w - 1) % w = ap (λ m. m % w) whole ∙ mod-mul-add n w (w - 1) (omega (arith, some)) ∙ sym last in
          absurd (false≢true (sym e ∙ shown_from w (w - 1) time same))
      | inr there ↦ there
    ])

-- ---- tests

-- where an iteration is tested at time a, so many were before
abbrev pub tested : ℕ → ℕ → ℕ → ℕ
tested w a time = count w (suc a) time

is_at_next : (w a time : ℕ) → is_at w (suc a) (suc time) ≡ is_at w a time
is_at_next w a time =
    ap₂ (λ x y. x && (y % w == 0)) (le_agree (suc a) (suc time) a time (λ h. omega (arith, h)) (λ h. omega (arith, h))) (let e : suc time - suc a ≡ time - a = omega arith in e)

pub tested_more : (w a q time : ℕ) → 0 < w → time ≡ q * w + a → (tested w a (suc time) ≡ suc q) × (tested w a time ≡ q)
tested_more w a q time some e = count_more w (suc a) q time some (omega (arith, e))

pub tested_same : (w a time : ℕ) → 0 < w → is_at w a time ≡ false → tested w a (suc time) ≡ tested w a time
tested_same w a time some off = count_same w (suc a) time some (is_at_next w a time ∙ off)

-- no more of them than this
pub tested_upper : (w a time : ℕ) → 0 < w → time ≤ tested w a time * w + a
tested_upper w a time some =
    let d = div-add-mod' (time + w - suc a) w in
    let small = mod_below (time + w - suc a) w some in
    omega (arith, d, small)

pub tested_lower : (w a j time : ℕ) → 0 < w → j < tested w a time → j * w + suc a ≤ time
tested_lower w a j time some lt =
    let d = div-add-mod' (time + w - suc a) w in
    let far : suc j * w ≤ tested w a time * w = later_turn w (suc j) (tested w a time) lt in
    let more : suc j * w ≡ j * w + w = omega arith in
    omega (arith, d, far, more, some)

pub tested_then : (w a j time : ℕ) → 0 < w → j * w + suc a ≤ time → j < tested w a time
tested_then w a j time some le =
    let up = tested_upper w a time some in
    earlier_turn w j (tested w a time) (omega (arith, up, le))

-- none in the beginning
pub tested_none : (w a : ℕ) → 0 < w → tested w a 0 ≡ 0
tested_none w a some = quotient (0 + w - suc a) 0 w (0 + w - suc a) (omega arith) (omega (arith, some))

-- Where an iteration is at its time t, its test is one of those that were made by the end of this cycle: the one so many places back.
pub tested_place : (w a t i time : ℕ) → 0 < w → a ≤ t → time ≡ i * w + t → tested w a (suc time) ≡ i + suc (place w a t 0)
tested_place w a t i time some le e =
    let there : place w (suc a) (suc t) 0 ≡ place w a t 0 = ap (λ n. n / w) (let z : suc t + 0 * w - suc a ≡ t + 0 * w - a = omega arith in z) in
    ap (tested w a) (let z : suc time ≡ i * w + suc t = omega (arith, e) in z) ∙ (place_same w (suc a) (suc t) i some (omega (arith, le)) ∙ ap (λ n. i + suc n) there)

pub place_is : (w a t : ℕ) → place w a t 0 ≡ (t - a) / w
place_is w a t = ap (λ n. n / w) (let z : t + 0 * w - a ≡ t - a = omega arith in z)
