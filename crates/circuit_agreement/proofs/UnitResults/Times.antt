-- Times at which iterations are.
use Rattle.std.proofs.Common.{◌≡◌, ℕ, suc, ◌+◌, ◌-◌, ◌*◌, ◌/◌, ◌%◌, ◌<◌, ◌≤◌, Bool, true, false, refl, sym, ap, ◌∙◌, inl, inr, arith}
use Rattle.std.specs.Prelude.{nat_le, ◌==◌, ◌||◌}
use Rattle.std.proofs.lemmas.Bool.{cases_Bool, cases_lt, and_parts, and_from, leb-true, eqb-true, eq-eqb, le-leb}
use Rattle.std.proofs.lemmas.Nat.{mod_below, div-add-mod'}
use Rattle.std.proofs.Math.Nat.{mul-le-mul_right, add-mul-mod_self_right}
use Rattle.clock_ir.specs.Flows.{is_at}

-- two numbers that are near one another and have the same rest
pub near : (m x y : ℕ) → x ≤ y → y < x + m → x % m ≡ y % m → x ≡ y
near m x y below above same =
    let a : x / m * m + x % m ≡ x = div-add-mod' x m in
    let b : y / m * m + y % m ≡ y = div-add-mod' y m in
    let whole : (q r : ℕ) → q < r → q * m + m ≤ r * m =
    λ (q r : ℕ) h. let l : (q + 1) * m ≤ r * m = mul-le-mul_right m (let k : q + 1 ≤ r = omega (arith, h) in k) in omega (arith, l) in
    elim (cases_lt (x / m) (y / m)) [
      | inl less ↦ let l = whole (x / m) (y / m) less in absurd (omega (arith, a, b, same, l, above))
      | inr ge ↦
          elim (cases_lt (y / m) (x / m)) [
            | inl less ↦ let l = whole (y / m) (x / m) less in absurd (omega (arith, a, b, same, l, below, above))
            | inr le ↦
                let q : x / m ≡ y / m = omega (arith, ge, le) in
                let e : x / m * m ≡ y / m * m = ap (λ k. k * m) q in
                omega (arith, a, b, same, e)
          ]
    ]

-- ---- times of iterations

pub record At (interval t time : ℕ) : Type 0 where
  pub begun : t ≤ time
  pub turn : (time - t) % interval ≡ 0

pub at_parts : (interval t time : ℕ) → is_at interval t time ≡ true → At interval t time
at_parts interval t time e =
    let parts = and_parts (nat_le t time) ((time - t) % interval == 0) e in
    record { begun = leb-true t time parts.0; turn = eqb-true ((time - t) % interval) 0 parts.1 }

pub is_at_from : (interval t time : ℕ) → At interval t time → is_at interval t time ≡ true
is_at_from interval t time h = and_from _ _ (le-leb t time h.begun) (eq-eqb ((time - t) % interval) 0 h.turn)

-- it was a cycle less ago in the cycle before
pub at_before : (interval t time : ℕ) → is_at interval (t + 1) (suc time) ≡ true → is_at interval t time ≡ true
at_before interval t time e =
    let h = at_parts interval (t + 1) (suc time) e in
    let same : suc time - (t + 1) ≡ time - t = omega arith in
    let b = h.begun in
    is_at_from interval t time (record { begun = omega (arith, b); turn = ap (λ k. k % interval) (sym same) ∙ h.turn })

pub same_rest : (interval t time : ℕ) → is_at interval t time ≡ true → t % interval ≡ time % interval
same_rest interval t time e =
    let h = at_parts interval t time e in
    let b = h.begun in
    let n : ℕ = (time - t) / interval in
    let split : n * interval + (time - t) % interval ≡ time - t = div-add-mod' (time - t) interval in
    let r = h.turn in
    let sum : time ≡ t + n * interval = omega (arith, split, r, b) in
    sym (ap (λ k. k % interval) sum ∙ add-mul-mod_self_right t n interval)

-- ---- nodes that are under way

-- the counter shows the time
pub shows : (w now t : ℕ) → 1 ≤ w → t % w ≡ now → (nat_le w 1 || (now == t % w)) ≡ true
shows w now t some e = or_there (nat_le w 1) (now == t % w) (eq-eqb now (t % w) (sym e))
  where
    or_there : (a b : Bool) → b ≡ true → (a || b) ≡ true
    or_there true b h = refl
    or_there false b h = h

pub shown : (w now t : ℕ) → 1 ≤ w → now < w → (nat_le w 1 || (now == t % w)) ≡ true → t % w ≡ now
shown w now t some fits e =
    elim (cases_Bool (nat_le w 1)) [
      | inl yes_ ↦
          let one : w ≤ 1 = leb-true w 1 yes_ in
          let low : t % w < w = mod_below t w (omega (arith, some)) in
          omega (arith, one, low, fits)
      | inr no_ ↦ sym (eqb-true now (t % w) (sym (ap (λ b. b || (now == t % w)) no_) ∙ e))
    ]
