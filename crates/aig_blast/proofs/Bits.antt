-- The bits of numbers, and words of literals that have them.
use Rattle.std.proofs.Common.{◌≡◌, ◌<◌, ◌≤◌, ◌+◌, ◌*◌, ◌/◌, ◌%◌, ◌^◌, ◌==◌, ℕ, suc, zero, Bool, true, false, not, cond, List, [], ◌∷◌, ◌++◌, map, length, get_or, take, drop, sum, refl, sym, ap, ◌∙◌, subst, append_assoc, length-append, arith}
use Rattle.std.specs.List.{All, flat_map, sum_by}
use Rattle.std.proofs.lemmas.List.{map-append, length-map, take_at, drop_at, get_or_at}
use Rattle.std.proofs.lemmas.List.Elements.{All-head, All-tail, All-map}
use Rattle.std.proofs.lemmas.List.Sums.{sum_by-cons}
use Rattle.std.proofs.lemmas.Grind.{flat_map-append}
use Rattle.std.proofs.Math.Nat.{mod-eq_of_lt}
use Rattle.aig_graph.specs.Graphs.{literal, values}
use Rattle.aig_graph.specs.Making.{Gates}
use Rattle.aig_graph.proofs.Growing.{literal_later}
use Rattle.aig_graph.specs.Words.{number, bits, worded, numbers, HasLength}
use Rattle.aig_graph.proofs.Numbers.{bits_length, number_below}
use Rattle.aig_graph.proofs.Shifts.{cut_more, positive, next_power}
use Rattle.rtl_core.specs.Netlist.{Memory}
use Rattle.rtl_core.specs.ClockStep.{Fit, fit_none, fit_one, AreMemories, no_memory, one_memory}
use Rattle.aig_blast.specs.Weight.{memory_size}
use Rattle.aig_blast.specs.Encoding.{word_bits, encoded, memory_bits}
use Rattle.aig_blast.specs.Literals.{AreBanks, joined, literals_from}

-- ---- the bits of a number

digit_bit : (d : ℕ) → d < 2 → cond (d == 1) 1 0 ≡ d
digit_bit zero h = refl
digit_bit (suc zero) h = refl
digit_bit (suc (suc d)) h = absurd (omega arith)

pub number_word_bits : (n x : ℕ) → number (word_bits n x) ≡ x % 2 ^ n
number_word_bits zero x = (let e : 0 ≡ x % 1 = omega arith in e)
number_word_bits (suc n) x =
    let whole : x % 2 + 2 * (x / 2) ≡ x = omega arith in
    ap (λ z. z + 2 * number (word_bits n (x / 2))) (digit_bit (x % 2) (omega arith))
    ∙ (ap (λ z. x % 2 + 2 * z) (number_word_bits n (x / 2))
    ∙ (cut_more (x % 2) (x / 2) (2 ^ n) (omega arith) (positive n) ∙ (ap (λ z. z % (2 * 2 ^ n)) whole ∙ ap (λ z. x % z) (sym (next_power n)))))

pub word_bits_length : (n x : ℕ) → length (word_bits n x) ≡ n
word_bits_length zero x = refl
word_bits_length (suc n) x = ap suc (word_bits_length n (x / 2))

bit_digit : (b : Bool) (n : ℕ) → ((cond b 1 0 + 2 * n) % 2 == 1) ≡ b
bit_digit true n = (let e : (1 + 2 * n) % 2 ≡ 1 = omega arith in ap (λ z. z == 1) e)
bit_digit false n = (let e : (0 + 2 * n) % 2 ≡ 0 = omega arith in ap (λ z. z == 1) e)

bit_rest : (b : Bool) (n : ℕ) → (cond b 1 0 + 2 * n) / 2 ≡ n
bit_rest true n = omega arith
bit_rest false n = omega arith

bits_number : (bs : List Bool) → word_bits (length bs) (number bs) ≡ bs
bits_number [] = refl
bits_number (b ∷ bs) =
    ap (λ z. z ∷ word_bits (length bs) ((cond b 1 0 + 2 * number bs) / 2)) (bit_digit b (number bs))
    ∙ ap (λ z. b ∷ z) (ap (word_bits (length bs)) (bit_rest b (number bs)) ∙ bits_number bs)

-- a word's bits are those of its number
pub bits_are : (w : List Bool) (ls : List ℕ) (n : ℕ) → length ls ≡ n → bits w ls ≡ word_bits n (worded w ls)
bits_are w ls n long = sym (ap (λ z. word_bits z (worded w ls)) (sym (bits_length w ls ∙ long)) ∙ bits_number (bits w ls))

-- ---- lengths

pub encoded_length : (ws xs : List ℕ) → Fit ws xs → length (encoded ws xs) ≡ sum ws
encoded_length _ _ fit_none = refl
encoded_length _ _ (fit_one n x ws xs h fit) = length-append (word_bits n x) (encoded ws xs) ∙ (ap (λ z. z + length (encoded ws xs)) (word_bits_length n x) ∙ (ap (λ z. n + z) (encoded_length ws xs fit) ∙ sym (sum_by-cons (λ z. z) n ws)))

words_length : (n : ℕ) (xs : List ℕ) → length (flat_map (word_bits n) xs) ≡ length xs * n
words_length n [] = (let e : 0 ≡ 0 * n = omega arith in e)
words_length n (x ∷ xs) =
    let h : length (flat_map (word_bits n) xs) ≡ length xs * n = words_length n xs in
    let e : suc (length xs) * n ≡ n + length xs * n = omega arith in
    length-append (word_bits n x) (flat_map (word_bits n) xs) ∙ (ap (λ z. z + length (flat_map (word_bits n) xs)) (word_bits_length n x) ∙ (ap (λ z. n + z) h ∙ sym e))

pub memory_length : (ms : List Memory) (mems : List (List ℕ)) → AreMemories ms mems → length (memory_bits ms mems) ≡ sum_by memory_size ms
memory_length _ _ no_memory = refl
memory_length _ _ (one_memory m words ms mems here all) =
    length-append (flat_map (word_bits m.bits) words) (memory_bits ms mems)
    ∙ (ap (λ z. z + length (memory_bits ms mems)) (words_length m.bits words ∙ ap (λ z. z * m.bits) here.count) ∙ (ap (λ z. memory_size m + z) (memory_length ms mems all) ∙ sym (sum_by-cons memory_size m ms)))

-- ---- words that have given bits

apart : (a b c d : List Bool) → length a ≡ length b → a ++ c ≡ b ++ d → (a ≡ b) × (c ≡ d)
apart a b c d same e =
    (sym (take_at a c (length a) refl) ∙ (ap (take (length a)) e ∙ take_at b d (length a) (sym same)), sym (drop_at a c (length a) refl) ∙ (ap (drop (length a)) e ∙ drop_at b d (length a) (sym same)))

-- a word with the bits of a number, and others behind it
word_apart : (w : List Bool) (ls more : List ℕ) (n x : ℕ) (rest : List Bool) → length ls ≡ n → x < 2 ^ n → bits w (ls ++ more) ≡ word_bits n x ++ rest → (worded w ls ≡ x) × (bits w more ≡ rest)
word_apart w ls more n x rest long below e =
    let r = apart (bits w ls) (word_bits n x) (bits w more) rest (bits_length w ls ∙ (long ∙ sym (word_bits_length n x))) (sym (map-append (literal w) ls more) ∙ e) in
    (ap number r.0 ∙ (number_word_bits n x ∙ mod-eq_of_lt below), r.1)

pub split_words : (w : List Bool) (ws xs : List ℕ) → Fit ws xs → (lss : List (List ℕ)) (more : List ℕ) (rest : List Bool) → map length lss ≡ ws → bits w (joined lss ++ more) ≡ encoded ws xs ++ rest
    → (numbers w lss ≡ xs) × (bits w more ≡ rest)
split_words w _ _ fit_none [] more rest same e = (refl, e)
split_words w _ _ fit_none (ls ∷ lss) more rest same e = absurd (cc same)
split_words w _ _ (fit_one n x ws xs h fit) [] more rest same e = absurd (cc same)
split_words w _ _ (fit_one n x ws xs h fit) (ls ∷ lss) more rest same e =
    let long : length ls ≡ n = cc same in
    let others : map length lss ≡ ws = cc same in
    let r = word_apart w ls (joined lss ++ more) n x (encoded ws xs ++ rest) long h (ap (bits w) (sym (append_assoc ls (joined lss) more)) ∙ (e ∙ append_assoc (word_bits n x) (encoded ws xs) rest)) in
    let s = split_words w ws xs fit lss more rest others r.1 in
    (ap (λ z. z ∷ numbers w lss) r.0 ∙ ap (λ z. x ∷ z) s.0, s.1)

split_bank : (w : List Bool) (n : ℕ) (xs : List ℕ) (lss : List (List ℕ)) (more : List ℕ) (rest : List Bool) → All (HasLength n) lss → length lss ≡ length xs → All (λ x. x < 2 ^ n) xs
    → bits w (joined lss ++ more) ≡ flat_map (word_bits n) xs ++ rest → (numbers w lss ≡ xs) × (bits w more ≡ rest)
split_bank w n [] [] more rest wide count below e = (refl, e)
split_bank w n [] (ls ∷ lss) more rest wide count below e = absurd (omega arith)
split_bank w n (x ∷ xs) [] more rest wide count below e = absurd (omega arith)
split_bank w n (x ∷ xs) (ls ∷ lss) more rest wide count below e =
    let same : length lss ≡ length xs = omega arith in
    let r = word_apart w ls (joined lss ++ more) n x (flat_map (word_bits n) xs ++ rest) (All-head (HasLength n) ls lss wide) (All-head (λ x. x < 2 ^ n) x xs below)
    (ap (bits w) (sym (append_assoc ls (joined lss) more)) ∙ (e ∙ append_assoc (word_bits n x) (flat_map (word_bits n) xs) rest)) in
    let s = split_bank w n xs lss more rest (All-tail (HasLength n) ls lss wide) same (All-tail (λ x. x < 2 ^ n) x xs below) r.1 in
    (ap (λ z. z ∷ numbers w lss) r.0 ∙ ap (λ z. x ∷ z) s.0, s.1)

abbrev pub flat : List (List (List ℕ)) → List (List ℕ)
flat bs = flat_map (λ (b : List (List ℕ)). b) bs

joined_append : (a b : List (List ℕ)) → joined (a ++ b) ≡ joined a ++ joined b
joined_append a b = flat_map-append (λ (ls : List ℕ). ls) a b

pub split_banks : (w : List Bool) (ms : List Memory) (mems : List (List ℕ)) → AreMemories ms mems → (bs : List (List (List ℕ))) → AreBanks ms bs → bits w (joined (flat bs)) ≡ memory_bits ms mems → map (numbers w) bs ≡ mems
split_banks w _ _ no_memory [] h e = refl
split_banks w _ _ no_memory (b ∷ bs) h e = absurd h
split_banks w _ _ (one_memory m words ms mems here all) [] h e = absurd h
split_banks w _ _ (one_memory m words ms mems here all) (b ∷ bs) h e =
    let r = split_bank w m.bits words b (joined (flat bs)) (memory_bits ms mems) h.0.wide (h.0.count ∙ sym here.count) here.fit (ap (bits w) (sym (joined_append b (flat bs))) ∙ e) in
    ap (λ z. z ∷ map (numbers w) bs) r.0 ∙ ap (λ z. words ∷ z) (split_banks w ms mems all bs h.1 r.1)

-- ---- numbers of words fit their widths

pub numbers_fit : (w : List Bool) (ws : List ℕ) (lss : List (List ℕ)) → map length lss ≡ ws → Fit ws (numbers w lss)
numbers_fit w ws lss e = subst (λ z. Fit z (numbers w lss)) e (own lss) where
  own : (lss : List (List ℕ)) → Fit (map length lss) (numbers w lss)
  own [] = fit_none
  own (ls ∷ lss) = fit_one (length ls) (worded w ls) (map length lss) (numbers w lss) (subst (λ z. worded w ls < 2 ^ z) (bits_length w ls) (number_below (bits w ls))) (own lss)

bank_below : (w : List Bool) (n : ℕ) (lss : List (List ℕ)) → All (HasLength n) lss → All (λ x. x < 2 ^ n) (numbers w lss)
bank_below w n lss wide = All-map (λ x. x < 2 ^ n) (worded w) lss (λ k d h. subst (λ z. worded w (get_or lss k d) < 2 ^ z) (bits_length w (get_or lss k d) ∙ wide k d h) (number_below (bits w (get_or lss k d))))

pub banks_fit : (w : List Bool) (ms : List Memory) (bs : List (List (List ℕ))) → AreBanks ms bs → AreMemories ms (map (numbers w) bs)
banks_fit w [] [] h = no_memory
banks_fit w [] (b ∷ bs) h = absurd h
banks_fit w (m ∷ ms) [] h = absurd h
banks_fit w (m ∷ ms) (b ∷ bs) h = one_memory m (numbers w b) ms (map (numbers w) bs) (record { count = length-map b (worded w) ∙ h.0.count; fit = bank_below w m.bits b h.0.wide }) (banks_fit w ms bs h.1)

-- ---- bits that are given

given_bits : (before bs : List Bool) (n : ℕ) → n ≡ length before → map (literal (before ++ bs)) (literals_from n (length bs)) ≡ bs
given_bits before [] n h = refl
given_bits before (b ∷ bs) n h =
    let even : (2 * n) % 2 ≡ 0 = omega arith in
    let half : 2 * n / 2 ≡ n = omega arith in
    let all = before ++ b ∷ bs in
    let first : literal all (2 * n) ≡ b =
    ap (λ z. cond (z == 1) (not (get_or all (2 * n / 2) false)) (get_or all (2 * n / 2) false)) even
    ∙ (ap (λ z. get_or all z false) half ∙ get_or_at before b bs false n (sym h)) in
    ap (λ z. z ∷ map (literal all) (literals_from (suc n) (length bs))) first
    ∙ ap (λ z. b ∷ z) (ap (λ z. map (literal z) (literals_from (suc n) (length bs))) (sym (append_assoc before (b ∷ []) bs))
    ∙ given_bits (before ++ b ∷ []) bs (suc n) (let l : length (before ++ b ∷ []) ≡ length before + 1 = length-append before (b ∷ []) in omega arith))

literals_kept : (w : List Bool) (e : Gates) (n k : ℕ) → n + k ≤ length w → map (literal (values w e.ands)) (literals_from n k) ≡ map (literal w) (literals_from n k)
literals_kept w e n zero h = refl
literals_kept w e n (suc k) h =
    ap (λ z. z ∷ map (literal (values w e.ands)) (literals_from (suc n) k)) (literal_later w e.ands (2 * n) (omega arith))
    ∙ ap (λ z. literal w (2 * n) ∷ z) (literals_kept w e (suc n) k (omega arith))

pub all_given : (e : Gates) (bs : List Bool) → length bs ≡ e.given → bits (values (false ∷ bs) e.ands) (literals_from 1 e.given) ≡ bs
all_given e bs same =
    literals_kept (false ∷ bs) e 1 e.given (omega arith) ∙ (ap (λ z. map (literal (false ∷ bs)) (literals_from 1 z)) (sym same) ∙ given_bits (false ∷ []) bs 1 refl)

pub from_length : (n k : ℕ) → length (literals_from n k) ≡ k
from_length n zero = refl
from_length n (suc k) = ap suc (from_length (suc n) k)
