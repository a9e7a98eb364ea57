-- What words hold behind elements that were put at their places.
use Rattle.std.proofs.Common.{◌≡◌, ℕ, suc, ◌+◌, ◌<◌, ◌≤◌, List, [], ◌∷◌, length, get_or, drop, refl, sym, ap, ◌∙◌, subst, inl, inr, arith}
use Rattle.std.specs.Prelude.{if◌then◌else◌}
use Rattle.std.proofs.Math.ListN.{length-set, set}
use Rattle.std.proofs.lemmas.List.{get_or-set_same, get_or-set_other, drop_all}
use Rattle.std.proofs.lemmas.Bool.{cases_eq, eq-eqb, ne_eqb}
use Rattle.ir_core.specs.AddressWords.{AreRising}
use Rattle.ir_core.proofs.Rising.{rising-bound}
use Rattle.ir_core.specs.FirstContents.{given_at}
use Rattle.flat_programs.specs.Memory.Filling.{filled}

pub filled-none : (places words : List ℕ) → filled places [] words ≡ words
filled-none [] words = refl
filled-none (p ∷ places) words = refl

pub length-filled : (places xs words : List ℕ) → length (filled places xs words) ≡ length words
length-filled [] xs words = refl
length-filled (p ∷ places) [] words = refl
length-filled (p ∷ places) (x ∷ xs) words = length-filled places xs (set words p x) ∙ length-set words p x

absent : (low high : ℕ) (places xs : List ℕ) (address w : ℕ) → AreRising low places high → address < low → given_at places xs address w ≡ w
absent low high [] xs address w r h = refl
absent low high (p ∷ places) [] address w r h = refl
absent low high (p ∷ places) (x ∷ xs) address w r h =
    let other : p ≡ address → ⊥ = λ e. omega (arith, r.0, e) in
    ap (λ b. if b then x else given_at places xs address w) (ne_eqb p address other) ∙ absent (suc p) high places xs address w r.1 (omega (arith, r.0))

pub filled-at : (low high : ℕ) (places xs words : List ℕ) (address : ℕ) → AreRising low places high → high ≤ length words → get_or (filled places xs words) address 0 ≡ given_at places xs address (get_or words address 0)
filled-at low high [] xs words address r h = refl
filled-at low high (p ∷ places) [] words address r h = refl
filled-at low high (p ∷ places) (x ∷ xs) words address r h =
    let later = filled-at (suc p) high places xs (set words p x) address r.1 (omega (arith, length-set words p x)) in
    elim (cases_eq p address) [
      | inl same ↦
          let inside : p < length words = omega (arith, rising-bound (suc p) high places r.1) in
          let here : get_or (set words p x) address 0 ≡ x = subst (λ a. get_or (set words p x) a 0 ≡ x) same (get_or-set_same words p x 0 inside) in
          let past : address < suc p = omega arith in
          later ∙ absent (suc p) high places xs address (get_or (set words p x) address 0) r.1 past ∙ here
          ∙ sym (ap (λ b. if b then x else given_at places xs address (get_or words address 0)) (eq-eqb p address same))
      | inr other ↦
          let back : address ≡ p → ⊥ = λ e. other (sym e) in
          later ∙ ap (given_at places xs address) (get_or-set_other words p address x 0 back)
          ∙ sym (ap (λ b. if b then x else given_at places xs address (get_or words address 0)) (ne_eqb p address other))
    ]

pub filled_past : (places xs words : List ℕ) (i : ℕ) → length places ≤ i → filled (drop i places) (drop i xs) words ≡ filled (drop (i + 1) places) (drop (i + 1) xs) words
filled_past places xs words i h =
    ap (λ ps. filled ps (drop i xs) words) (drop_all i places h) ∙ sym (ap (λ ps. filled ps (drop (i + 1) xs) words) (drop_all (i + 1) places (omega arith)))

-- all of a memory's first contents
pub first-filled : (high : ℕ) (places table initial given words : List ℕ) (address : ℕ) → AreRising 0 places high → high ≤ length words → get_or words address 0 ≡ 0
    → get_or (filled places given (filled places initial (filled places table words))) address 0 ≡ given_at places given address (given_at places initial address (given_at places table address 0))
first-filled high places table initial given words address r h none =
    let one = length-filled places table words in
    let two = length-filled places initial (filled places table words) in
    filled-at 0 high places given (filled places initial (filled places table words)) address r (omega (arith, one, two))
    ∙ ap (given_at places given address) (filled-at 0 high places initial (filled places table words) address r (omega (arith, one))
    ∙ ap (given_at places initial address) (filled-at 0 high places table words address r h ∙ ap (given_at places table address) none))
