-- Numbers of constants, of negated words, and of sums, differences and products.
use Rattle.std.proofs.Common.{◌≡◌, ℕ, zero, suc, ◌+◌, ◌-◌, ◌*◌, ◌/◌, ◌%◌, ◌^◌, ◌<◌, ◌≤◌, nat_lt, Bool, true, false, not, cond, List, [], ◌∷◌, ◌++◌, length, map, take, replicate, get_or, refl, sym, ap, ◌∙◌, subst, append_assoc, arith}
use Rattle.std.specs.List.{All}
use Rattle.std.proofs.lemmas.Bool.{le-ltb, lt-ltb}
use Rattle.std.proofs.lemmas.List.{append-nil, map-append}
use Rattle.std.proofs.lemmas.List.Elements.{All-nil, All-cons, All-push}
use Rattle.std.proofs.Math.Nat.{add-mod_right, mod-eq_of_lt, mul-add, add-mod, mod-mod}
use Rattle.aig_graph.specs.Graphs.{literal}
use Rattle.aig_graph.specs.Making.{Gates, IsLiteral}
use Rattle.aig_graph.specs.Words.{number, bits, worth, constant_word, IsNegation}
use Rattle.aig_graph.proofs.Making.{Constants}
use Rattle.aig_graph.proofs.Numbers.{take_bits}
use Rattle.aig_graph.proofs.Shifts.{cut_more, positive, next_power, map_zeros}

-- ---- constants

literal_digit : (w : List Bool) (b : ℕ) → Constants w → b < 2 → worth (literal w b) 1 ≡ b
literal_digit w zero k h = ap (λ z. worth z 1) k.0
literal_digit w (suc zero) k h = ap (λ z. worth z 1) k.1
literal_digit w (suc (suc b)) k h = absurd (omega arith)

pub number_constant : (w : List Bool) (n x : ℕ) → Constants w → number (bits w (constant_word n x)) ≡ x % 2 ^ n
number_constant w zero x k = (let e : 0 ≡ x % 1 = omega arith in e)
number_constant w (suc n) x k =
    let whole : x % 2 + 2 * (x / 2) ≡ x = omega arith in
    ap (λ z. z + 2 * number (bits w (constant_word n (x / 2)))) (literal_digit w (x % 2) k (omega arith))
    ∙ (ap (λ z. x % 2 + 2 * z) (number_constant w n (x / 2) k)
    ∙ (cut_more (x % 2) (x / 2) (2 ^ n) (omega arith) (positive n) ∙ (ap (λ z. z % (2 * 2 ^ n)) whole ∙ ap (λ z. x % z) (sym (next_power n)))))

pub constant_length : (n x : ℕ) → length (constant_word n x) ≡ n
constant_length zero x = refl
constant_length (suc n) x = ap suc (constant_length n (x / 2))

pub constant_fits : (d : Gates) (n x : ℕ) → All (IsLiteral d) (constant_word n x)
constant_fits d zero x = All-nil (IsLiteral d)
constant_fits d (suc n) x = All-cons (IsLiteral d) (x % 2) (constant_word n (x / 2)) (omega arith) (constant_fits d n (x / 2))

-- a bit more of a constant
pub constant_more : (before after : List ℕ) (n i x : ℕ) (whole : List ℕ) → after ≡ before ++ x % 2 ∷ [] → i < n → before ++ constant_word (n - i) x ≡ whole → after ++ constant_word (n - (i + 1)) (x / 2) ≡ whole
constant_more before after n i x whole e h inv =
    let next : n - i ≡ suc (n - (i + 1)) = omega arith in
    ap (λ z. z ++ constant_word (n - (i + 1)) (x / 2)) e
    ∙ (append_assoc before (x % 2 ∷ []) (constant_word (n - (i + 1)) (x / 2)) ∙ (ap (λ z. before ++ constant_word z x) (sym next) ∙ inv))

pub zeros_number : (w : List Bool) (n : ℕ) → Constants w → number (bits w (replicate n 0)) ≡ 0
zeros_number w n k = ap number (map_zeros w n k.0) ∙ none n where
  none : (n : ℕ) → number (replicate n false) ≡ 0
  none zero = refl
  none (suc n) = (let h : number (replicate n false) ≡ 0 = none n in omega arith)

pub zeros_fit : (d : Gates) (n : ℕ) → All (IsLiteral d) (replicate n 0)
zeros_fit d zero = All-nil (IsLiteral d)
zeros_fit d (suc n) = All-cons (IsLiteral d) 0 (replicate n 0) (omega arith) (zeros_fit d n)

-- ---- negated words

pub negation_more : (xs : List ℕ) (i : ℕ) (ls ms : List ℕ) (m : ℕ) → IsNegation xs i ls → ms ≡ ls ++ m ∷ [] → i < length xs → ((w : List Bool) → literal w m ≡ not (literal w (get_or xs i 0)))
    → ((n : ℕ) → get_or xs i 0 < 2 * n → m < 2 * n) → IsNegation xs (i + 1) ms
negation_more xs i ls ms m inv e h is within = subst (IsNegation xs (i + 1)) (sym e) (record {
  count = length_one ls m ∙ ap (λ z. z + 1) inv.count;
  fits = λ d all. All-push (IsLiteral d) ls m (inv.fits d all) (within (suc d.given + length d.ands) (all i 0 h));
  value = λ w.
      map-append (literal w) ls (m ∷ []) ∙ (ap (λ z. z ++ literal w m ∷ []) (inv.value w) ∙ (ap (λ z. map not (bits w (take i xs)) ++ z ∷ []) (is w)
      ∙ (sym (map-append not (bits w (take i xs)) (literal w (get_or xs i 0) ∷ [])) ∙ ap (map not) (sym (take_bits w xs i h)))));
}) where
  length_one : (ls : List ℕ) (m : ℕ) → length (ls ++ m ∷ []) ≡ length ls + 1
  length_one [] m = refl
  length_one (l ∷ ls) m = (let h = length_one ls m in omega arith)

pub number_not : (bs : List Bool) → number (map not bs) + number bs + 1 ≡ 2 ^ length bs
number_not [] = refl
number_not (true ∷ bs) = (let h = number_not bs in let e = next_power (length bs) in omega arith)
number_not (false ∷ bs) = (let h = number_not bs in let e = next_power (length bs) in omega arith)

-- ---- sums and differences

pub sum_cut : (N X Y P : ℕ) (c : Bool) → N + worth c P ≡ X + Y + 0 → N < P → N ≡ (X + Y) % P
sum_cut N X Y P true e n =
    let sum : X + Y ≡ N + P = omega arith in
    sym (ap (λ z. z % P) sum ∙ (add-mod_right N P ∙ mod-eq_of_lt n))
sum_cut N X Y P false e n =
    let sum : X + Y ≡ N = omega arith in
    sym (ap (λ z. z % P) sum ∙ mod-eq_of_lt n)

pub difference_cut : (N X Y Z P : ℕ) (c : Bool) → N + worth c P ≡ X + Z + 1 → Z + Y + 1 ≡ P → N < P → X < P → N ≡ (X + (P - Y)) % P
difference_cut N X Y Z P true e f n x =
    let sum : X + (P - Y) ≡ N + P = omega arith in
    sym (ap (λ z. z % P) sum ∙ (add-mod_right N P ∙ mod-eq_of_lt n))
difference_cut N X Y Z P false e f n x =
    let sum : X + (P - Y) ≡ N = omega arith in
    sym (ap (λ z. z % P) sum ∙ mod-eq_of_lt n)

pub borrow_shown : (N X Y Z P : ℕ) (c : Bool) → N + worth c P ≡ X + Z + 1 → Z + Y + 1 ≡ P → N < P → X < P → c ≡ not (nat_lt X Y)
borrow_shown N X Y Z P true e f n x = sym (ap not (le-ltb X Y (omega arith)))
borrow_shown N X Y Z P false e f n x = sym (ap not (lt-ltb X Y (omega arith)))

-- ---- products

pub product_begins : (N P : ℕ) → 0 < P → 0 ≡ N * 0 % P
product_begins N P h = (let e : N * 0 ≡ 0 = omega arith in sym (ap (λ z. z % P) e ∙ mod-eq_of_lt h))

-- a row more
pub product_more : (t : Bool) (N M A P Q : ℕ) → A ≡ N * M % P → (A + cond t (N * Q % P) 0) % P ≡ N * (M + worth t Q) % P
product_more true N M A P Q e = ap (λ z. (z + N * Q % P) % P) e ∙ (sym (add-mod (N * M) (N * Q) P) ∙ ap (λ z. z % P) (sym (mul-add N M Q)))
product_more false N M A P Q e =
    let none : A + 0 ≡ A = omega arith in
    let same : M ≡ M + 0 = omega arith in
    ap (λ z. z % P) none ∙ (ap (λ z. z % P) e ∙ (mod-mod (N * M) P ∙ ap (λ z. N * z % P) same))

pub constant_ends : (before : List ℕ) (n i x : ℕ) (whole : List ℕ) → n ≤ i → before ++ constant_word (n - i) x ≡ whole → before ≡ whole
constant_ends before n i x whole h inv =
    let none : n - i ≡ 0 = omega arith in
    sym (append-nil before) ∙ (ap (λ z. before ++ constant_word z x) (sym none) ∙ inv)
