-- A list of words used as a ring holds a queue.
use Rattle.std.proofs.Common.{◌≡◌, ◌≢◌, ℕ, suc, ◌+◌, ◌-◌, ◌%◌, ◌^◌, ◌<◌, ◌≤◌, true, false, List, [], ◌∷◌, ◌++◌, length, get_or, set, sym, ap, ◌∙◌, subst, inl, inr, arith, length-append}
use Rattle.std.proofs.lemmas.Bool.{cases_lt}
use Rattle.std.proofs.lemmas.Nat.{pow_pos}
use Rattle.std.proofs.lemmas.List.{length-set, get_or-set_same, get_or-set_other, get_or_append_left, get_or_at}
use Rattle.std.proofs.Math.Nat.{mod-add-mod, mod-eq_of_lt, mod-lt, add-mod_left}
use Rattle.chain_box.specs.Chains.{is_some_item, first}
use Rattle.chain_link.specs.Queues.{Ring, HoldsQueue}

abbrev pub ring : List ℕ → ℕ → ℕ → Ring
ring words head count = record { words = words; head = head; count = count }

-- a step of fewer than n does not come back
goes_elsewhere : (r k n : ℕ) → r < n → 0 < k → k < n → (r + k) % n ≢ r
goes_elsewhere r k n h some few e = elim (cases_lt (r + k) n) [
  | inl lt ↦ (let same : (r + k) % n ≡ r + k = mod-eq_of_lt lt in omega arith)
  | inr le ↦
      let less : r + k - n < n = omega arith in
      let sum : n + (r + k - n) ≡ r + k = omega arith in
      let same : (r + k) % n ≡ r + k - n = ap (λ z. z % n) (sym sum) ∙ (add-mod_left n (r + k - n) ∙ mod-eq_of_lt less) in
      omega arith
]

-- two places of a ring differ
places_differ : (h i c n : ℕ) → 0 < n → i < c → c ≤ n → c < n + i → (h + i) % n ≢ (h + c) % n
places_differ h i c n some less within few e =
    let sum : (h + i) + (c - i) ≡ h + c = omega arith in
    let moved : ((h + i) % n + (c - i)) % n ≡ (h + c) % n = mod-add-mod (h + i) n (c - i) ∙ ap (λ z. z % n) sum in
    goes_elsewhere ((h + i) % n) (c - i) n (mod-lt (h + i) some) (omega arith) (omega arith) (moved ∙ sym e)

pub pop_holds : (log : ℕ) (w : List ℕ) (h c x : ℕ) (xs : List ℕ) → HoldsQueue log (ring w h c) (x ∷ xs) → HoldsQueue log (ring w ((h + 1) % 2 ^ log) (c - 1)) xs
pop_holds log w h c x xs r = record {
  words = r.words;
  within = (let l = r.within in omega arith);
  head = mod-lt (h + 1) (pow_pos log);
  count = (let e = r.count in omega arith);
  each = λ i lt.
      let sum : h + 1 + i ≡ h + suc i = omega arith in
      ap (λ z. get_or w z 0) (mod-add-mod (h + 1) (2 ^ log) i ∙ ap (λ z. z % 2 ^ log) sum) ∙ r.each (suc i) (omega arith);
}

pub push_holds : (log : ℕ) (w : List ℕ) (h c x : ℕ) (q : List ℕ) → HoldsQueue log (ring w h c) q → length q < 2 ^ log → HoldsQueue log (ring (set w ((h + c) % 2 ^ log) x) h (c + 1)) (q ++ x ∷ [])
push_holds log w h c x q r room =
    let n = 2 ^ log in
    let some : 0 < n = pow_pos log in
    let place = (h + c) % n in
    let there : place < length w = subst (λ z. place < z) (sym r.words) (mod-lt (h + c) some) in
    let count : c ≡ length q = r.count in
    record {
      words = length-set w place x ∙ r.words;
      within = (omega (arith, length-append q (x ∷ [])));
      head = r.head;
      count = (omega (arith, length-append q (x ∷ [])));
      each = λ i lt.
          let few : i < length q + 1 = omega (arith, length-append q (x ∷ [])) in
          elim (cases_lt i (length q)) [
            | inl less ↦
                get_or-set_other w place ((h + i) % n) x 0 (places_differ h i c n some (omega arith) (omega arith) (omega arith))
                ∙ (r.each i less ∙ sym (get_or_append_left q (x ∷ []) 0 i less))
            | inr past ↦
                (let last : i ≡ c = omega arith in
                ap (λ z. get_or (set w place x) ((h + z) % n) 0) last ∙ (get_or-set_same w place x 0 there ∙ sym (get_or_at q x [] 0 i (omega arith))))
          ];
    }

-- the first item
pub first_held : (log : ℕ) (r : Ring) (q : List ℕ) → HoldsQueue log r q → is_some_item q ≡ true → get_or r.words r.head 0 ≡ first q
first_held log r [] holds e = absurd (let f : false ≡ true = e in (cc))
first_held log r (x ∷ xs) holds e =
    let place : (r.head + 0) % 2 ^ log ≡ r.head = ap (λ z. z % 2 ^ log) (let z : r.head + 0 ≡ r.head = omega arith in z) ∙ mod-eq_of_lt holds.head in
    ap (λ z. get_or r.words z 0) (sym place) ∙ holds.each 0 (omega arith)
