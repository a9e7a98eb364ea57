-- Which times of a loop have come, on plain numbers: iterations begin each w cycles, and a is a time of theirs.
use Rattle.std.proofs.Common.{◌≡◌, ℕ, suc, ◌+◌, ◌-◌, ◌*◌, ◌/◌, ◌%◌, ◌<◌, ◌≤◌, ◌⊎◌, Bool, true, false, inl, inr, refl, sym, ap, ◌∙◌, arith, div-add-mod', mod-lt}
use Rattle.std.proofs.Math.Nat.{mul-add-mod_self_right}
use Rattle.std.proofs.lemmas.Bool.{cases_lt}
use Rattle.clock_ir.specs.Flows.{is_at, place}
use Rattle.clock_runs.proofs.Numbers.{turn, is_at_sure, is_at_true, later_turn}

-- ---- products

pub times_more : (q d w : ℕ) → (q + d) * w ≡ q * w + d * w
times_more q d w = omega arith

pub turn_more : (q w : ℕ) → (q + 1) * w ≡ q * w + w
turn_more q w = omega arith

-- what is not less is some more
pub some_more : (q k w : ℕ) → 0 < w → k * w < q * w + w → (d : ℕ) × (q ≡ k + d)
some_more q k w some h =
    elim (cases_lt q k) [
      | inl less ↦ absurd (let l = later_turn w (q + 1) k (omega arith) in let m = turn_more q w in omega arith)
      | inr more ↦ (q - k, omega arith)
    ]

-- ---- rests

pub rest_of : (w q y : ℕ) → (q * w + y) % w ≡ y % w
rest_of w q y = mul-add-mod_self_right q w y

pub rest_same : (w x q y : ℕ) → x ≡ q * w + y → x % w ≡ y % w
rest_same w x q y e = ap (λ n. n % w) e ∙ rest_of w q y

-- numbers with the same rest are some turns apart
pub turns_apart : (w x y : ℕ) → 0 < w → y ≤ x → x % w ≡ y % w → (q : ℕ) × (x ≡ q * w + y)
turns_apart w x y some le same =
    let a : x / w * w + x % w ≡ x = div-add-mod' x w in
    let b : y / w * w + y % w ≡ y = div-add-mod' y w in
    let m = some_more (x / w) (y / w) w some (omega arith) in
    let t : x / w * w ≡ y / w * w + m.0 * w = ap (λ n. n * w) m.1 ∙ times_more (y / w) m.0 w in
    (m.0, omega arith)

-- ---- what comes in the next cycle

-- the value of some iteration is there in the next cycle
pub comes_next : (w a time : ℕ) → 0 < w → 1 ≤ a → a ≤ time + 1 → time % w ≡ (a - 1) % w → is_at w a (suc time) ≡ true
comes_next w a time some first low same =
    let q = turns_apart w time (a - 1) some (omega arith) same in
    let e = q.1 in
    is_at_sure w some q.0 a (suc time) (omega arith)

pub came_at : (w a time : ℕ) → 1 ≤ a → is_at w a (suc time) ≡ true → time % w ≡ (a - 1) % w
came_at w a time first h =
    let e : suc time ≡ turn w a (suc time) * w + a = is_at_true w a (suc time) h in
    rest_same w time (turn w a (suc time)) (a - 1) (omega arith)

-- the same k iterations later, if so many have begun
pub arrival_comes : (w a k time : ℕ) → 0 < w → 1 ≤ a → is_at w (a - 1 + k * w) time ≡ true → is_at w a (suc time) ≡ true
arrival_comes w a k time some first h =
    let e : time ≡ turn w (a - 1 + k * w) time * w + (a - 1 + k * w) = is_at_true w (a - 1 + k * w) time h in
    let t : (turn w (a - 1 + k * w) time + k) * w ≡ turn w (a - 1 + k * w) time * w + k * w = times_more (turn w (a - 1 + k * w) time) k w in
    is_at_sure w some (turn w (a - 1 + k * w) time + k) a (suc time) (omega arith)

pub comes_arrival : (w a k time : ℕ) → 0 < w → 1 ≤ a → (k ≡ 0) ⊎ (a + k * w ≤ time + 1) → is_at w a (suc time) ≡ true → is_at w (a - 1 + k * w) time ≡ true
comes_arrival w a k time some first low h =
    let q : ℕ = turn w a (suc time) in
    let e : suc time ≡ q * w + a = is_at_true w a (suc time) h in
    let far : k * w < q * w + w = elim low [
      | inl none ↦ (let z : k * w ≡ 0 * w = ap (λ n. n * w) none in omega arith)
      | inr some_ ↦ omega arith
    ] in
    let m = some_more q k w some far in
    let t : q * w ≡ k * w + m.0 * w = ap (λ n. n * w) m.1 ∙ times_more k m.0 w in
    is_at_sure w some m.0 (a - 1 + k * w) time (omega arith)

-- two tests that hold together are one
pub same_test : (x y : Bool) → (x ≡ true → y ≡ true) → (y ≡ true → x ≡ true) → x ≡ y
same_test true y f g = sym (f refl)
same_test false true f g = g refl
same_test false false f g = refl

pub arrival_same : (w a k time : ℕ) → 0 < w → 1 ≤ a → (k ≡ 0) ⊎ (a + k * w ≤ time + 1) → is_at w (a - 1 + k * w) time ≡ is_at w a (suc time)
arrival_same w a k time some first low = same_test _ _ (arrival_comes w a k time some first) (comes_arrival w a k time some first low)

-- ---- reading

-- what is read at time t, so many iterations later, lies in its place for the whole interval
pub placed : (w a t d : ℕ) → 0 < w → a ≤ t + d * w → (r : ℕ) × ((t + d * w ≡ a + place w a t d * w + r) × (r < w))
placed w a t d some le =
    let e : (t + d * w - a) / w * w + (t + d * w - a) % w ≡ t + d * w - a = div-add-mod' (t + d * w - a) w in
    let small : (t + d * w - a) % w < w = mod-lt (t + d * w - a) some in
    ((t + d * w - a) % w, (omega arith, small))
