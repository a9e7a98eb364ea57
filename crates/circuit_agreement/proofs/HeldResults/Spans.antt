-- From when until when a place of a chain is held, on numbers: iterations begin each w cycles, the result is there from time a of its iteration on, and j is the place.
use Rattle.std.proofs.Common.{◌≡◌, ◌≢◌, ℕ, zero, suc, ◌+◌, ◌-◌, ◌*◌, ◌<◌, ◌≤◌, ◌⊎◌, ◌==◌, min, max, Bool, true, false, if◌then◌else◌, List, Some, inl, inr, refl, sym, ap, ◌∙◌, subst, arith}
use Rattle.std.proofs.lemmas.Bool.{cases_Bool, cases_eq, cond-true, cond-false, eqb-true, eqb-false, true≢false, false≢true}
use Rattle.ir_core.specs.declared.timed.Timed.{Timed}
use Rattle.ir_core.specs.declared.body.Op.{Op}
use Rattle.ir_core.specs.declared.body.Out.{Out}
use Rattle.reg_binding.specs.declared.life.Life.{Life}
use Rattle.reg_binding.specs.Lives.{ready, is_taken_over, place_life, with_entry, chain_life}
use Rattle.reg_binding.specs.Sharing.{IsThere}
use Rattle.clock_ir.specs.Flows.{is_at}
use Rattle.clock_runs.proofs.Numbers.{turn, is_at_sure, is_at_true}
use Rattle.circuit_agreement.proofs.HeldResults.Times.{some_more, times_more}

-- A variable takes the result over, or none does. Then each place but the first is entered one iteration sooner.
pub record IsSpan (w a last j : ℕ) (taken : Bool) (life : Life) : Type 0 where
  pub first : j ≡ 0 → life.start ≡ a
  pub sooner : (m : ℕ) → j ≡ m + 1 → taken ≡ true → life.start ≡ a + m * w
  pub plain : taken ≡ false → life.start ≡ a + j * w
  pub long : life.length ≡ min w (last - (a + j * w) + 1)
  pub none : (taken ≡ false) ⊎ (j ≢ 0) → life.entry ≡ 0
  pub entry : taken ≡ true → j ≡ 0 → life.entry ≡ max 1 (a + life.length - w)

module _ (outs : List Out) (w k : ℕ) (op : Op Timed) (last j : ℕ) where
  abbrev plain_life : Life
  plain_life = place_life w k op last j

  none_first : j ≡ 0 → ready op + j * w ≡ ready op
  none_first e = (let z : j * w ≡ 0 * w = ap (λ n. n * w) e in omega arith)

  spans : (taken : Bool) → IsSpan w (ready op) last j taken (if taken then with_entry w plain_life else plain_life)
  spans false = record {
    first = none_first;
    sooner = λ m e t. absurd (false≢true t);
    plain = λ e. refl;
    long = refl;
    none = λ e. refl;
    entry = λ t. absurd (false≢true t);
  }
  spans true = elim (cases_Bool (j == 0)) [
    | inl at_first ↦
        let zero_ : j ≡ 0 = eqb-true j 0 at_first in
        let is : with_entry w plain_life ≡ record plain_life { first = 0; entry = max 1 (plain_life.start + plain_life.length - w) } = cond-true _ _ _ at_first in
        subst (IsSpan w (ready op) last j true) (sym is) (record {
          first = none_first;
          sooner = λ m e t. absurd (omega (arith, e, zero_));
          plain = λ t. absurd (true≢false t);
          long = refl;
          none = λ e. absurd (elim e [ inl t ↦ true≢false t | inr other ↦ other zero_ ]);
          entry = λ t e. (let at = none_first zero_ in ap (λ n. max 1 (n + plain_life.length - w)) at);
        })
    | inr behind ↦
        let some : j ≢ 0 = eqb-false j 0 behind in
        let is : with_entry w plain_life ≡ record plain_life { first = plain_life.start - w; start = plain_life.start - w } = cond-false _ _ _ behind in
        subst (IsSpan w (ready op) last j true) (sym is) (record {
          first = λ e. absurd (some e);
          sooner = λ m e t. (let z : j * w ≡ (m + 1) * w = ap (λ n. n * w) e in let y : (m + 1) * w ≡ m * w + w = omega arith in let x : ready op + j * w - w ≡ ready op + m * w = omega arith in x);
          plain = λ t. absurd (true≢false t);
          long = refl;
          none = λ e. refl;
          entry = λ t e. absurd (some e);
        })
  ]

  pub span_of : IsSpan w (ready op) last j (is_taken_over outs k) (chain_life outs w k op last j)
  span_of = spans (is_taken_over outs k)

-- ---- holding

-- It is held for some cycles.
pub lasts : (w a last j : ℕ) (taken : Bool) (life : Life) → 0 < w → IsSpan w a last j taken life → 1 ≤ life.length
lasts w a last j taken life some s = (let l = s.long in omega arith)

-- it begins with a time at which the result of some iteration is there
pub record Begins (w a : ℕ) (life : Life) : Type 0 where
  pub turns : ℕ
  pub is : life.start ≡ turns * w + a

pub begins : (w a last j : ℕ) (taken : Bool) (life : Life) → IsSpan w a last j taken life → Begins w a life
begins w a last zero taken life s = record { turns = 0; is = (let e = s.first refl in omega arith) }
begins w a last (suc m) true life s = record { turns = m; is = (let e = s.sooner m (let z : suc m ≡ m + 1 = omega arith in z) refl in omega arith) }
begins w a last (suc m) false life s = record { turns = suc m; is = (let e = s.plain refl in omega arith) }

-- what is held in the next cycle, and does not come in it, is held now
pub held_before : (w a last j time : ℕ) (taken : Bool) (life : Life) → 0 < w → IsSpan w a last j taken life → IsThere (Some w) life (suc time) → is_at w a (suc time) ≡ false → IsThere (Some w) life time
held_before w a last j time taken life some s there off = elim there [
  | inl early ↦ inl (omega (arith, early))
  | inr in_turn ↦
      let b = begins w a last j taken life s in
      let n = in_turn.0 in
      let low = in_turn.1 in
      let high = in_turn.2 in
      let is = b.is in
      let t : (b.turns + n) * w ≡ b.turns * w + n * w = times_more b.turns n w in
      inr (
        n,
        (elim (cases_eq (life.start + n * w) (suc time)) [
          | inl now ↦ absurd (true≢false (sym (is_at_sure w some (b.turns + n) a (suc time) (omega (arith, now, is, t))) ∙ off))
          | inr other ↦ omega (arith, other, low)
        ]),
        omega (arith, high),
      )
]

-- what is held in the first cycle is what a variable has at entry
pub held_first : (w a last j : ℕ) (taken : Bool) (life : Life) → 1 ≤ a → IsSpan w a last j taken life → IsThere (Some w) life 0 → (taken ≡ true) × (j ≡ 0)
held_first w a last zero true life first s there = (refl, refl)
held_first w a last zero false life first s there = absurd (elim there [
  | inl early ↦ (let e = s.none (inl refl) in omega (arith, e, early))
  | inr in_turn ↦ (let b = begins w a last zero false life s in let is = b.is in let low = in_turn.1 in omega (arith, is, low))
])
held_first w a last (suc m) taken life first s there = absurd (elim there [
  | inl early ↦ (let e = s.none (inr (λ z. omega (arith, z))) in omega (arith, e, early))
  | inr in_turn ↦ (let b = begins w a last (suc m) taken life s in let is = b.is in let low = in_turn.1 in omega (arith, is, low))
])

pub first_held : (w a last : ℕ) (life : Life) → IsSpan w a last 0 true life → IsThere (Some w) life 0
first_held w a last life s = inl (let e = s.entry refl refl in omega (arith, e))

-- where a variable takes the result over, the places behind the first one are held from their beginning on
pub from_beginning : (w a last m time : ℕ) (life : Life) → IsSpan w a last (suc m) true life → IsThere (Some w) life time → a + m * w ≤ time
from_beginning w a last m time life s there = elim there [
  | inl early ↦ absurd (let e = s.none (inr (λ z. omega (arith, z))) in omega (arith, e, early))
  | inr in_turn ↦ (let e = s.sooner m (let z : suc m ≡ m + 1 = omega arith in z) refl in let low = in_turn.1 in omega (arith, e, low))
]

-- a value that comes into its place is held in the next cycle
pub held_next : (w a last j k time : ℕ) (taken : Bool) (life : Life) → 0 < w → 1 ≤ a → IsSpan w a last j taken life
    → (k ≡ j) ⊎ ((k ≡ j - 1) × (taken ≡ true)) → is_at w (a - 1 + k * w) time ≡ true → IsThere (Some w) life (suc time)
held_next w a last zero k time taken life some first s which h =
    let none : k ≡ 0 = elim which [ inl e ↦ e | inr e ↦ (let z = e.0 in omega (arith, z)) ] in
    let z : k * w ≡ 0 * w = ap (λ n. n * w) none in
    let q = turn w (a - 1 + k * w) time in
    let e : time ≡ q * w + (a - 1 + k * w) = is_at_true w (a - 1 + k * w) time h in
    let at = s.first refl in
    let l = lasts w a last zero taken life some s in
    inr (q, (omega (arith, z, e, at)), (omega (arith, z, e, at, l)))
held_next w a last (suc m) k time false life some first s which h =
    let all : k ≡ suc m = elim which [ inl e ↦ e | inr e ↦ absurd (false≢true e.1) ] in
    let z : k * w ≡ suc m * w = ap (λ n. n * w) all in
    let q = turn w (a - 1 + k * w) time in
    let e : time ≡ q * w + (a - 1 + k * w) = is_at_true w (a - 1 + k * w) time h in
    let at = s.plain refl in
    let l = lasts w a last (suc m) false life some s in
    inr (q, (omega (arith, z, e, at)), (omega (arith, z, e, at, l)))
held_next w a last (suc m) k time true life some first s which h =
    let q = turn w (a - 1 + k * w) time in
    let e : time ≡ q * w + (a - 1 + k * w) = is_at_true w (a - 1 + k * w) time h in
    let at = s.sooner m (let z : suc m ≡ m + 1 = omega arith in z) refl in
    let l = lasts w a last (suc m) true life some s in
    elim which [
      | inl all ↦
          let z : k * w ≡ m * w + w = ap (λ n. n * w) all ∙ (let y : suc m * w ≡ m * w + w = omega arith in y) in
          let y : (q + 1) * w ≡ q * w + w = omega arith in
          inr (q + 1, (omega (arith, z, e, at, y)), (omega (arith, z, e, at, l, y)))
      | inr one_less ↦
          let z : k * w ≡ m * w = ap (λ n. n * w) (let y = one_less.0 in let x : k ≡ m = omega (arith, y) in x) in
          inr (q, (omega (arith, z, e, at)), (omega (arith, z, e, at, l)))
    ]

-- what moves into a place in the next cycle is held in the place before
pub held_for_next : (w a last m time : ℕ) (taken : Bool) (life before : Life) → 0 < w → 1 ≤ a → a + suc m * w ≤ last → IsSpan w a last (suc m) taken life → IsSpan w a last m taken before
    → IsThere (Some w) life (suc time) → is_at w a (suc time) ≡ true → IsThere (Some w) before time
held_for_next w a last m time taken life before some first soon s s_before there h = elim there [
  | inl early ↦ absurd (let e = s.none (inr (λ z. omega (arith, z))) in omega (arith, e, early))
  | inr in_turn ↦ go m taken s s_before soon in_turn.0 in_turn.1 in_turn.2
]
  where
    whole : (m : ℕ) (taken : Bool) → IsSpan w a last m taken before → a + suc m * w ≤ last → before.length ≡ w
    whole m taken sb soon = (let l = sb.long in let y : suc m * w ≡ m * w + w = omega arith in omega (arith, l, y, soon))

    none_more : {P : Type 0} (d : ℕ) → d * w < w → (d * w ≡ 0 → P) → P
    none_more zero lt f = f (omega arith)
    none_more (suc d) lt f = absurd (let y : suc d * w ≡ d * w + w = omega arith in omega (arith, lt, y))

    at_zero : (n : ℕ) → suc time ≡ n * w + a → before.start ≡ a → before.length ≡ w → before.entry ≡ max 1 (a + before.length - w) → IsThere (Some w) before time
    at_zero zero e at wl ent = inl (omega (arith, e, wl, ent))
    at_zero (suc n) e at wl ent = (let y : suc n * w ≡ n * w + w = omega arith in inr (n, (omega (arith, e, at, y)), (omega (arith, e, at, y, wl, some))))

    go : (m : ℕ) (taken : Bool) → IsSpan w a last (suc m) taken life → IsSpan w a last m taken before → a + suc m * w ≤ last
        → (n : ℕ) → life.start + n * w ≤ suc time → suc time < life.start + n * w + life.length → IsThere (Some w) before time
    go m false sl sb soon n low high =
        let e : suc time ≡ turn w a (suc time) * w + a = is_at_true w a (suc time) h in
        let at = sl.plain refl in
        let at_before = sb.plain refl in
        let l = sl.long in
        let y : suc m * w ≡ m * w + w = omega arith in
        let t : (suc m + n) * w ≡ suc m * w + n * w = times_more (suc m) n w in
        let d = some_more (turn w a (suc time)) (suc m + n) w some (omega (arith, e, at, low, t)) in
        let u : (suc m + n + d.0) * w ≡ (suc m + n) * w + d.0 * w = times_more (suc m + n) d.0 w in
        let now : turn w a (suc time) * w ≡ (suc m + n + d.0) * w = ap (λ x. x * w) d.1 in
        let turn_is : d.0 * w < w = omega (arith, e, at, high, l, t, u, now) in
        let wl = whole m false sb soon in
        inr (n, (omega (arith, e, now, u, t, at_before, y)), none_more d.0 turn_is (λ z. omega (arith, e, now, u, t, at_before, y, wl, z)))
    go zero true sl sb soon n low high =
        let e : suc time ≡ turn w a (suc time) * w + a = is_at_true w a (suc time) h in
        let at = sl.sooner 0 (let z : 1 ≡ 0 + 1 = omega arith in z) refl in
        let at_before = sb.first refl in
        let l = sl.long in
        let d = some_more (turn w a (suc time)) n w some (omega (arith, e, at, low)) in
        let u : (n + d.0) * w ≡ n * w + d.0 * w = times_more n d.0 w in
        let now : turn w a (suc time) * w ≡ (n + d.0) * w = ap (λ x. x * w) d.1 in
        let turn_is : d.0 * w < w = omega (arith, e, at, high, l, u, now) in
        let wl = whole 0 true sb soon in
        let ent = sb.entry refl refl in
        none_more d.0 turn_is (λ z. at_zero n (omega (arith, e, now, u, z)) at_before wl ent)
    go (suc m) true sl sb soon n low high =
        let e : suc time ≡ turn w a (suc time) * w + a = is_at_true w a (suc time) h in
        let at = sl.sooner (suc m) (let z : suc (suc m) ≡ suc m + 1 = omega arith in z) refl in
        let at_before = sb.sooner m (let z : suc m ≡ m + 1 = omega arith in z) refl in
        let l = sl.long in
        let y : suc m * w ≡ m * w + w = omega arith in
        let t : (suc m + n) * w ≡ suc m * w + n * w = times_more (suc m) n w in
        let d = some_more (turn w a (suc time)) (suc m + n) w some (omega (arith, e, at, low, t)) in
        let u : (suc m + n + d.0) * w ≡ (suc m + n) * w + d.0 * w = times_more (suc m + n) d.0 w in
        let now : turn w a (suc time) * w ≡ (suc m + n + d.0) * w = ap (λ x. x * w) d.1 in
        let turn_is : d.0 * w < w = omega (arith, e, at, high, l, t, u, now) in
        let wl = whole (suc m) true sb soon in
        inr (n, (omega (arith, e, now, u, t, at_before, y)), none_more d.0 turn_is (λ z. omega (arith, e, now, u, t, at_before, y, wl, z)))

-- ---- reading

-- what is read in a place in some cycle is held there: the value of iteration n - d, or the one that a variable has at entry
pub held_where_read : (w a last j t d r n : ℕ) (taken : Bool) (life : Life) → 0 < w → IsSpan w a last j taken life → t + d * w ≡ a + j * w + r → r < w → t + d * w ≤ last
    → (d ≡ 0) ⊎ ((d ≡ 1) × (taken ≡ true)) → IsThere (Some w) life (n * w + t)
held_where_read w a last j t d r n taken life some s is small late near = elim near [
  | inl none ↦ (let z : d * w ≡ 0 * w = ap (λ x. x * w) none in same j taken s (omega (arith, is, z)) (omega (arith, late, z)))
  | inr one ↦
      let z : d * w ≡ 1 * w = ap (λ x. x * w) one.0 in
      before j n (subst (λ b. IsSpan w a last j b life) one.1 s) (omega (arith, is, z)) (omega (arith, late, z))
]
  where
    long : (j : ℕ) (taken : Bool) → IsSpan w a last j taken life → a + j * w + r ≤ last → r < life.length
    long j taken s le = (let l = s.long in omega (arith, l, le, small))

    same : (j : ℕ) (taken : Bool) → IsSpan w a last j taken life → t ≡ a + j * w + r → t ≤ last → IsThere (Some w) life (n * w + t)
    same zero taken s e le = (let at = s.first refl in let l = long zero taken s (omega (arith, e, le)) in inr (n, (omega (arith, at, e)), (omega (arith, at, e, l))))
    same (suc m) false s e le = (let at = s.plain refl in let l = long (suc m) false s (omega (arith, e, le)) in inr (n, (omega (arith, at, e)), (omega (arith, at, e, l))))
    same (suc m) true s e le =
        let at = s.sooner m (let z : suc m ≡ m + 1 = omega arith in z) refl in
        let l = long (suc m) true s (omega (arith, e, le)) in
        let y : suc m * w ≡ m * w + w = omega arith in
        let x : (n + 1) * w ≡ n * w + w = omega arith in
        inr (n + 1, (omega (arith, at, e, y, x)), (omega (arith, at, e, l, y, x)))

    before : (j n : ℕ) → IsSpan w a last j true life → t + w ≡ a + j * w + r → t + w ≤ last → IsThere (Some w) life (n * w + t)
    before zero zero s e le = (let ent = s.entry refl refl in let l = long zero true s (omega (arith, e, le)) in inl (omega (arith, ent, e, l)))
    before zero (suc n) s e le =
        let at = s.first refl in
        let l = long zero true s (omega (arith, e, le)) in
        let y : suc n * w ≡ n * w + w = omega arith in
        inr (n, (omega (arith, at, e, y)), (omega (arith, at, e, l, y)))
    before (suc m) n s e le =
        let at = s.sooner m (let z : suc m ≡ m + 1 = omega arith in z) refl in
        let l = long (suc m) true s (omega (arith, e, le)) in
        let y : suc m * w ≡ m * w + w = omega arith in
        inr (n, (omega (arith, at, e, y)), (omega (arith, at, e, l, y)))
