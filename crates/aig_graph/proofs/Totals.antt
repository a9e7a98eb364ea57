-- Sums, differences and products as numbers of whole words.
use Rattle.std.proofs.Common.{◌≡◌, ℕ, ◌+◌, ◌*◌, ◌%◌, ◌^◌, ◌<◌, ◌≤◌, nat_lt, Bool, true, false, not, cond, List, ◌++◌, length, map, take, replicate, get_or, refl, sym, ap, ◌∙◌, subst, arith}
use Rattle.std.proofs.lemmas.List.{take_all, take-take, length-replicate}
use Rattle.aig_graph.specs.Graphs.{literal}
use Rattle.aig_graph.specs.Making.{Gates, IsSound, Makes}
use Rattle.aig_graph.proofs.Growing.{stays}
use Rattle.aig_graph.specs.Words.{number, bits, worded, worth, Sums, Subtracts, Multiplies, Computes, Picks, IsNegation, bitwise_number, MakesWord, shifted}
use Rattle.aig_graph.specs.declared.bitwise.BitOperator.{BitOperator}
use Rattle.aig_graph.proofs.Numbers.{bits_length, number_below, take_whole, take_number}
use Rattle.aig_graph.proofs.Making.{Constants, so, anyway, word_so, word_then}
use Rattle.aig_graph.proofs.Shifts.{number_shifted, choose_number, positive}
use Rattle.aig_graph.proofs.Constants.{sum_cut, difference_cut, borrow_shown, number_not, zeros_number, zeros_fit, product_begins, product_more}

pub whole_at : (w : List Bool) (ys : List ℕ) (n : ℕ) → n ≡ length ys → bits w (take n ys) ≡ bits w ys
whole_at w ys n e = ap (bits w) (take_all n ys (omega arith))

below_power : (w : List Bool) (ls : List ℕ) (n : ℕ) → length ls ≡ n → number (bits w ls) < 2 ^ n
below_power w ls n e = subst (λ z. number (bits w ls) < 2 ^ z) (bits_length w ls ∙ e) (number_below (bits w ls))

pub bitwise_whole : (d e : Gates) (op : BitOperator) (xs ys ls : List ℕ) (i : ℕ) → length xs ≡ length ys → i ≡ length xs
    → MakesWord d e ls i (λ w bs. number bs ≡ bitwise_number op (number (bits w (take i xs))) (number (bits w (take i ys))))
    → Computes d e ls (length xs) (λ w. bitwise_number op (worded w xs) (worded w ys))
bitwise_whole d e op xs ys ls i same end m =
    word_so d e ls (length xs) (λ w bs. number bs ≡ bitwise_number op (number (bits w (take (length xs) xs))) (number (bits w (take (length xs) ys)))) _
    (subst (λ z. MakesWord d e ls z (λ w bs. number bs ≡ bitwise_number op (number (bits w (take z xs))) (number (bits w (take z ys))))) end m)
    (λ w k p. p ∙ (ap (λ z. bitwise_number op (number z) (number (bits w (take (length xs) ys)))) (take_whole w xs) ∙ ap (λ z. bitwise_number op (worded w xs) (number z)) (whole_at w ys (length xs) same)))

pub total_of : (d e : Gates) (xs ys : List ℕ) (next : ℕ) (ls : List ℕ) → length xs ≡ length ys → Sums d e xs ys 0 next (length xs) ls → Computes d e ls (length xs) (λ w. (worded w xs + worded w ys) % 2 ^ length xs)
total_of d e xs ys next ls same s =
    let n = length xs in
    word_so d e ls n _ _ s.word
    (λ w k p.
    let N = number (bits w ls) in
    let X = worded w xs in
    let Y = worded w ys in
    let whole : N + worth (literal w next) (2 ^ n) ≡ X + Y + 0 =
    p ∙ (ap (λ z. number z + number (bits w (take n ys)) + worth (literal w 0) 1) (take_whole w xs)
    ∙ (ap (λ z. X + number z + worth (literal w 0) 1) (whole_at w ys n same) ∙ ap (λ z. X + Y + worth z 1) k.0)) in
    sum_cut N X Y (2 ^ n) (literal w next) whole (below_power w ls n s.word.count))

pub difference_of : (d e : Gates) (xs ys zs now : List ℕ) (next : ℕ) (ls : List ℕ) → length xs ≡ length ys → IsNegation ys (length ys) zs → now ≡ zs → Sums d e xs now 1 next (length xs) ls → Subtracts d e xs ys next ls
difference_of d e xs ys zs now next ls same neg is s' =
    let s = subst (λ z. Sums d e xs z 1 next (length xs) ls) is s' in
    let n = length xs in
    let whole : (w : List Bool) (k : Constants w)
    → number (bits w ls) + worth (literal w next) (2 ^ n) ≡ number (bits w (take n xs)) + number (bits w (take n zs)) + worth (literal w 1) 1
    → number (bits w ls) + worth (literal w next) (2 ^ n) ≡ worded w xs + worded w zs + 1 =
    λ w k p. p ∙ (ap (λ z. number z + number (bits w (take n zs)) + worth (literal w 1) 1) (take_whole w xs)
    ∙ (ap (λ z. worded w xs + number z + worth (literal w 1) 1) (whole_at w zs n (same ∙ sym neg.count)) ∙ ap (λ z. worded w xs + worded w zs + worth z 1) k.1)) in
    let inverse : (w : List Bool) → worded w zs + worded w ys + 1 ≡ 2 ^ n =
    λ w. ap (λ z. number z + worded w ys + 1) (neg.value w ∙ ap (map not) (take_whole w ys))
    ∙ (number_not (bits w ys) ∙ ap (λ z. 2 ^ z) (bits_length w ys ∙ sym same)) in
    record {
      word = word_so d e ls n _ _ s.word (λ w k p. difference_cut (number (bits w ls)) (worded w xs) (worded w ys) (worded w zs) (2 ^ n) (literal w next) (whole w k p) (inverse w) (below_power w ls n s.word.count) (below_power w xs n refl));
      carry = s.carry;
      not_less = so e _ _ s.word.value (λ w k p. borrow_shown (number (bits w ls)) (worded w xs) (worded w ys) (worded w zs) (2 ^ n) (literal w next) (whole w k p) (inverse w) (below_power w ls n s.word.count) (below_power w xs n refl));
    }

not_not : (b : Bool) → not (not b) ≡ b
not_not true = refl
not_not false = refl

pub below_of : (d e : Gates) (xs ys : List ℕ) (next : ℕ) (ls : List ℕ) (l : ℕ) → Subtracts d e xs ys next ls → ((w : List Bool) → literal w l ≡ not (literal w next)) → ((n : ℕ) → next < 2 * n → l < 2 * n)
    → Makes d e l (λ w x. x ≡ nat_lt (worded w xs) (worded w ys))
below_of d e xs ys next ls l s is within = record {
  extends = s.word.extends;
  sound = s.word.sound;
  shows = record {
    fits = within _ s.carry;
    value = so e _ _ s.not_less (λ w k p. is w ∙ (ap not p ∙ not_not (nat_lt (worded w xs) (worded w ys))));
  };
}

pub picks_whole : (d e : Gates) (test : ℕ) (xs ys ls : List ℕ) (n : ℕ) → length xs ≡ n → length ys ≡ n → Picks d e test xs ys n ls → MakesWord d e ls n (λ w bs. bs ≡ cond (literal w test) (bits w xs) (bits w ys))
picks_whole d e test xs ys ls n long same p =
    word_so d e ls n _ _ p
    (λ w k h. h ∙ (ap (λ z. cond (literal w test) z (bits w (take n ys))) (whole_at w xs n (sym long)) ∙ ap (λ z. cond (literal w test) (bits w xs) z) (whole_at w ys n (sym same))))

-- ---- products

pub row_added : (d e f : Gates) (sum row zeros chosen now ls : List ℕ) (test : ℕ) → length sum ≡ length row → zeros ≡ replicate (length row) 0 → now ≡ chosen → Picks d e test row zeros (length row) chosen
    → Computes e f ls (length sum) (λ w. (worded w sum + worded w now) % 2 ^ length sum)
    → Computes d f ls (length sum) (λ w. (worded w sum + cond (literal w test) (worded w row) 0) % 2 ^ length sum)
row_added d e f sum row zeros chosen now ls test same none is p q' =
    let n = length row in
    let q = subst (λ z. Computes e f ls (length sum) (λ w. (worded w sum + worded w z) % 2 ^ length sum)) is q' in
    word_then d e f chosen ls n (length sum) _ _ _ p q
    (λ w k a b.
    let first : number (bits w (take n row)) ≡ worded w row = ap number (take_whole w row) in
    let second : number (bits w (take n zeros)) ≡ 0 =
    ap (λ z. number (bits w (take n z))) none ∙ (ap (λ z. number (bits w z)) (take_all n (replicate n 0) (zeros_long n)) ∙ zeros_number w n k) in
    b ∙ ap (λ z. (worded w sum + z) % 2 ^ length sum) (choose_number (literal w test) (bits w chosen) (bits w (take n row)) (bits w (take n zeros)) (worded w row) 0 a first second)) where
      zeros_long : (n : ℕ) → length {A = ℕ} (replicate n 0) ≤ n
      zeros_long n = omega (arith, length-replicate {A = ℕ} n 0)

pub multiply_begins : (d : Gates) (xs ys ls : List ℕ) → ls ≡ replicate (length xs) 0 → IsSound d → Multiplies d d xs ys 0 ls
multiply_begins d xs ys ls e sound = subst (Multiplies d d xs ys 0) (sym e) (record {
  extends = stays d;
  sound = sound;
  count = length-replicate {A = ℕ} (length xs) 0;
  fits = zeros_fit d (length xs);
  value = anyway d _ (λ w k. zeros_number w (length xs) k ∙ product_begins (worded w xs) (2 ^ length xs) (positive (length xs)));
})

pub multiply_goes_on : (d e f : Gates) (xs ys product row now row_now ls : List ℕ) (i : ℕ) → Multiplies d e xs ys i product → i < length ys → row ≡ shifted i xs → now ≡ product → row_now ≡ row
    → Computes e f ls (length now) (λ w. (worded w now + cond (literal w (get_or ys i 0)) (worded w row_now) 0) % 2 ^ length now) → Multiplies d f xs ys (i + 1) ls
multiply_goes_on d e f xs ys product row now row_now ls i inv h is_row is is_now q' =
    let n = length xs in
    let q = subst (λ z. Computes e f ls (length z) (λ w. (worded w z + cond (literal w (get_or ys i 0)) (worded w (shifted i xs)) 0) % 2 ^ length z)) is
    (subst (λ z. Computes e f ls (length now) (λ w. (worded w now + cond (literal w (get_or ys i 0)) (worded w z) 0) % 2 ^ length now)) (is_now ∙ is_row) q') in
    let r = subst (λ z. Computes e f ls z (λ w. (worded w product + cond (literal w (get_or ys i 0)) (worded w (shifted i xs)) 0) % 2 ^ z)) inv.count q in
    word_then d e f product ls n n _ _ _ inv r
    (λ w k a b.
    let t = literal w (get_or ys i 0) in
    let N = worded w xs in
    let M = number (bits w (take i ys)) in
    let A = worded w product in
    let row_is : worded w (shifted i xs) ≡ N * 2 ^ i % 2 ^ n = ap (worded w) (sym (take-take n n (replicate i 0 ++ xs) (omega arith))) ∙ number_shifted w i xs k.0 in
    b ∙ (ap (λ z. (A + cond t z 0) % 2 ^ n) row_is ∙ (product_more t N M A (2 ^ n) (2 ^ i) a ∙ ap (λ z. N * z % 2 ^ n) (sym (take_number w ys i h)))))
