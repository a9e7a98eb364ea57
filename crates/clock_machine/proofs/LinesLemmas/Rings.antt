-- A line is a ring of words that shows the values which came last.
use Rattle.std.proofs.Common.{◌≡◌, ◌≢◌, ℕ, ◌+◌, ◌-◌, ◌<◌, ◌≤◌, ◌∙◌, inl, inr, ap, List, length, get_or, set, take, drop, ◌++◌, arith}
use Rattle.std.specs.Prelude.{nat_lt}
use Rattle.std.proofs.lemmas.Bool.{cases_lt, cond-true, cond-false, lt-ltb, le-ltb}
use Rattle.std.proofs.lemmas.List.{get_or-set_same, get_or-set_other, take_at}
use Rattle.clock_machine.specs.declared.lines.program.Line.{Line}
use Rattle.clock_machine.specs.Lines.Registers.{place_back, value_back, head_behind, AreApart}

-- where a value is read
pub place_near : (length head back : ℕ) → back < head → place_back length head back ≡ head - back - 1
place_near length head back lt = cond-true (nat_lt back head) (head - back - 1) (head + length - back - 1) (lt-ltb back head lt)

pub place_far : (length head back : ℕ) → head ≤ back → place_back length head back ≡ head + length - back - 1
place_far length head back le = cond-false (nat_lt back head) (head - back - 1) (head + length - back - 1) (le-ltb back head le)

pub next_head : (length head : ℕ) → head + 1 < length → head_behind length head ≡ head + 1
next_head length head lt = cond-true (nat_lt (head + 1) length) (head + 1) 0 (lt-ltb (head + 1) length lt)

pub first_head : (length head : ℕ) → length ≤ head + 1 → head_behind length head ≡ 0
first_head length head le = cond-false (nat_lt (head + 1) length) (head + 1) 0 (le-ltb (head + 1) length le)

pub place_within : (length head back : ℕ) → head < length → back < length → place_back length head back < length
place_within length head back h b = elim (cases_lt back head) [
  | inl lt ↦ (let e = place_near length head back lt in omega arith)
  | inr le ↦ (let e = place_far length head back le in omega arith)
]

-- the value that came last stands at the head
pub last_place : (length head : ℕ) → head < length → place_back length (head_behind length head) 0 ≡ head
last_place length head h = elim (cases_lt (head + 1) length) [
  | inl lt ↦
      let e = next_head length head lt in
      let p = place_near length (head_behind length head) 0 (omega arith) in
      omega arith
  | inr le ↦
      let e = first_head length head le in
      let p = place_far length (head_behind length head) 0 (omega arith) in
      omega arith
]

-- the values before stand where they stood
pub earlier_place : (length head back : ℕ) → head < length → back + 1 < length → place_back length (head_behind length head) (back + 1) ≡ place_back length head back
earlier_place length head back h b = elim (cases_lt (head + 1) length) [
  | inl lt ↦
      let e = next_head length head lt in
      elim (cases_lt back head) [
        | inl near ↦
            let p = place_near length (head_behind length head) (back + 1) (omega arith) in
            let q = place_near length head back near in
            omega arith
        | inr far ↦
            let p = place_far length (head_behind length head) (back + 1) (omega arith) in
            let q = place_far length head back far in
            omega arith
      ]
  | inr le ↦
      let e = first_head length head le in
      let p = place_far length (head_behind length head) (back + 1) (omega arith) in
      let q = place_near length head back (omega arith) in
      omega arith
]

-- and not at the head
pub not_head : (length head back : ℕ) → head < length → back + 1 < length → place_back length head back ≢ head
not_head length head back h b e = elim (cases_lt back head) [
  | inl near ↦ (let q = place_near length head back near in absurd (omega arith))
  | inr far ↦ (let q = place_far length head back far in absurd (omega arith))
]

module _ (words : List ℕ) (line : Line) (head w : ℕ) (inside : line.first + line.length ≤ length words) (h : head < line.length) where
  abbrev new : List ℕ
  new = set words (line.first + head) w

  pub shows_last : value_back new line (head_behind line.length head) 0 ≡ w
  shows_last = ap (λ p. get_or new (line.first + p) 0) (last_place line.length head h) ∙ get_or-set_same words (line.first + head) w 0 (omega arith)

  pub shows_earlier : (back : ℕ) → back + 1 < line.length → value_back new line (head_behind line.length head) (back + 1) ≡ value_back words line head back
  shows_earlier back b =
      let differ = not_head line.length head back h b in
      ap (λ p. get_or new (line.first + p) 0) (earlier_place line.length head back h b)
      ∙ get_or-set_other words (line.first + head) (line.first + place_back line.length head back) w 0 (λ e. differ (let z : place_back line.length head back ≡ head = omega (arith, e) in z))

  pub shows_others : (other : Line) (its back : ℕ) → AreApart line other → its < other.length → back < other.length → value_back new other its back ≡ value_back words other its back
  shows_others other its back apart i b =
      let within = place_within other.length its back i b in
      get_or-set_other words (line.first + head) (other.first + place_back other.length its back) w 0 (λ e. absurd (elim apart [
        | inl before ↦ (let z : ⊥ = omega (arith, e, within, before, h) in z)
        | inr behind ↦ (let z : ⊥ = omega (arith, e, within, behind) in z)
      ]))

-- a Vec behind a slice of it that was written
pub written_back : (n : ℕ) (new old : List ℕ) → length new ≡ n → take n (new ++ drop (length new) old) ≡ new
written_back n new old h = take_at new (drop (length new) old) n h
