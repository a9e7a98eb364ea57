-- How far a counter goes, and at which distance two of its offsets meet.
use Rattle.std.proofs.Common.{◌≡◌, ℕ, zero, suc, ◌+◌, ◌*◌, ◌/◌, ◌%◌, ◌<◌, ◌⊎◌, ◌∙◌, inl, inr, sym, refl, ap, ap₂, subst, true, false, ℤ, pos, negsuc, ◌+ℤ◌, neg_ℤ, arith, div-add-mod', if◌then◌else◌}
use Rattle.std.specs.Prelude.{int_lt, int_div, int_rem}
use Rattle.std.specs.Ordering.{int_eq, is_eq}
use Rattle.std.proofs.lemmas.Int.{ints}
use Rattle.std.proofs.lemmas.Bool.{cond-true, false≢true}
use Rattle.dep_graph.specs.declared.access.Meeting.{Meeting}
use Rattle.dep_graph.specs.declared.access.Meeting.TheVariants as m
use Rattle.dep_graph.specs.Meetings.{distance_of, both}
use Rattle.clock_runs.proofs.Numbers.{quotient}
use Rattle.std.specs.declared.cmp.Ordering.TheVariants.{Equal, Greater, Less}

-- the step, d times
abbrev pub grown : ℤ → ℕ → ℤ
grown step zero = pos 0
grown step (suc d) = grown step d +ℤ step

grown_up : (a d : ℕ) → grown (pos a) d ≡ pos (d * a)
grown_up a zero = (let none : 0 ≡ 0 * a = omega arith in ap pos none)
grown_up a (suc d) = ap (λ z. z +ℤ pos a) (grown_up a d) ∙ ap pos (let e : d * a + a ≡ suc d * a = omega arith in e)

grown_down : (a d : ℕ) → grown (negsuc a) d ≡ neg_ℤ (pos (d * suc a))
grown_down a zero = (let none : 0 ≡ 0 * suc a = omega arith in ap (λ n. neg_ℤ (pos n)) none)
grown_down a (suc d) =
    let before = grown_down a d in
    let e : d * suc a + suc a ≡ suc d * suc a = omega arith in
    omega (arith, ints, before, e)

rest_none : (x q w : ℕ) → 0 < w → x ≡ q * w → (x / w ≡ q) × (x % w ≡ 0)
rest_none x q w some e =
    let div : x / w ≡ q = quotient x q w 0 (omega arith) some in
    let whole : q * w + x % w ≡ x = ap (λ y. y * w + x % w) (sym div) ∙ div-add-mod' x w in
    (div, omega arith)

down_divides : (a d x : ℕ) → x ≡ d * suc a → (int_rem (neg_ℤ (pos x)) (negsuc a) ≡ pos 0) × (int_div (neg_ℤ (pos x)) (negsuc a) ≡ pos d)
down_divides a d zero e = (let r = rest_none 0 d (suc a) (omega arith) e in (ap pos r.1, ap (λ n. neg_ℤ (pos n)) r.0 ∙ (let product : d * suc a ≡ 0 = sym e in let none : d ≡ 0 = omega arith in ap (λ n. neg_ℤ (pos n)) none ∙ ap pos (sym none))))
down_divides a d (suc x) e = (let r = rest_none (suc x) d (suc a) (omega arith) e in (ap (λ n. neg_ℤ (pos n)) r.1, ap pos r.0))

divides : (step : ℤ) (d : ℕ) → int_eq step (pos 0) ≡ false → (int_rem (grown step d) step ≡ pos 0) × (int_div (grown step d) step ≡ pos d)
divides (pos zero) d some = absurd (false≢true (sym some))
divides (pos (suc a)) d some =
    let r = rest_none (d * suc a) d (suc a) (omega arith) refl in
    let up = grown_up (suc a) d in
    (ap (λ z. int_rem z (pos (suc a))) up ∙ ap pos r.1, ap (λ z. int_div z (pos (suc a))) up ∙ ap pos r.0)
divides (negsuc a) d some =
    let r = down_divides a d (d * suc a) refl in
    let down = grown_down a d in
    (ap (λ z. int_rem z (negsuc a)) down ∙ r.0, ap (λ z. int_div z (negsuc a)) down ∙ r.1)

lt_itself : (x : ℤ) → int_lt x x ≡ false
lt_itself x = grind (arith, ints)

pub eq_itself : (x : ℤ) → int_eq x x ≡ true
eq_itself x = ap₂ (λ a b. is_eq (if a then Less else (if b then Greater else Equal))) (lt_itself x) (lt_itself x)

-- ---- meetings that foresee the distance d

abbrev pub Foresees : ℕ → Meeting → Type 0
Foresees d meeting = (meeting ≡ m.Always) ⊎ (meeting ≡ m.At (pos d))

pub offsets_foresee : (step gap : ℤ) (d : ℕ) → int_eq step (pos 0) ≡ false → gap ≡ grown step d → Foresees d (distance_of step gap)
offsets_foresee step gap d some e =
    let r = divides step d some in
    let whole : int_eq (int_rem gap step) (pos 0) ≡ true = ap (λ z. int_eq (int_rem z step) (pos 0)) e ∙ ap (λ z. int_eq z (pos 0)) r.0 in
    inr (cond-true _ _ _ whole ∙ ap (λ z. m.At (int_div z step)) e ∙ ap m.At r.1)

both_at : (d : ℕ) → both (m.At (pos d)) (m.At (pos d)) ≡ m.At (pos d)
both_at d = cond-true _ _ _ (eq_itself (pos d))

pub both_foresee : (d : ℕ) (x y : Meeting) → Foresees d x → Foresees d y → Foresees d (both x y)
both_foresee d x y p q = elim p [
  | inl a ↦ subst (Foresees d) (sym (ap (λ z. both z y) a)) q
  | inr a ↦ elim q [
    | inl b ↦ inr (ap₂ both a b)
    | inr b ↦ inr (ap₂ both a b ∙ both_at d)
  ]
]
