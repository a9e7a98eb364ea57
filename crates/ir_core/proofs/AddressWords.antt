-- Numbers modulo 2^64.
use Rattle.std.proofs.Common.{◌≡◌, ℕ, zero, suc, ◌+◌, ◌-◌, ◌*◌, ◌/◌, ◌%◌, ◌^◌, ◌<◌, ◌≤◌, List, [], ◌∷◌, ◌++◌, map, refl, sym, ap, ◌∙◌, arith, mul_assoc, append_assoc}
use Rattle.std.proofs.Math.Nat.{mod-eq_of_lt, add-mul-mod_self_right, mod-add-div', pow-le-pow_right, mul-add}
use Rattle.std.proofs.lemmas.Nat.{pow-add}
use Rattle.hls_base.specs.ArrayAddress.{row_addresses, addresses, address_bits, subscript_bits}
use Rattle.ir_core.specs.AddressWords.{in_words, rows_at}

pub wide : (word bits : ℕ) → word < 2 ^ 64 → 64 ≤ bits → word ≡ word % 2 ^ bits
wide word bits h w =
    let power : 2 ^ 64 ≤ 2 ^ bits = pow-le-pow_right (omega arith) w in
    let less : word < 2 ^ bits = omega arith in
    sym (mod-eq_of_lt less)

-- a sum modulo m is that of the numbers modulo m
left-mod : (m x y : ℕ) → (x % m + y) % m ≡ (x + y) % m
left-mod m x y =
    let whole : x % m + x / m * m ≡ x = mod-add-div' x m in
    let e : x + y ≡ (x % m + y) + x / m * m = omega (arith, whole) in
    sym (ap (λ n. n % m) e ∙ add-mul-mod_self_right (x % m + y) (x / m) m)

sum-mod : (m x y : ℕ) → (x % m + y % m) % m ≡ (x + y) % m
sum-mod m x y =
    let swap : x + y % m ≡ y % m + x = omega arith in
    let back : y + x ≡ x + y = omega arith in
    left-mod m x (y % m) ∙ ap (λ n. n % m) swap ∙ left-mod m y x ∙ ap (λ n. n % m) back

next_start : (i size : ℕ) → ((i * size) % 2 ^ 64 + size % 2 ^ 64) % 2 ^ 64 ≡ (suc i * size) % 2 ^ 64
next_start i size = sum-mod (2 ^ 64) (i * size) size ∙ ap (λ n. n % 2 ^ 64) (let e : i * size + size ≡ suc i * size = omega arith in e)

row_words : (start : ℕ) (row : List ℕ) → map (λ low. (start % 2 ^ 64 + low) % 2 ^ 64) (in_words row) ≡ in_words (map (λ low. start + low) row)
row_words start [] = refl
row_words start (a ∷ row) = ap (λ x. x ∷ map (λ low. (start % 2 ^ 64 + low) % 2 ^ 64) (in_words row)) (sum-mod (2 ^ 64) start a) ∙ ap (λ l. (start + a) % 2 ^ 64 ∷ l) (row_words start row)

in_words-append : (xs ys : List ℕ) → in_words (xs ++ ys) ≡ in_words xs ++ in_words ys
in_words-append [] ys = refl
in_words-append (x ∷ xs) ys = ap (λ l. x % 2 ^ 64 ∷ l) (in_words-append xs ys)

rows_words : (bits : ℕ) (row : List ℕ) (i n : ℕ) → rows_at ((i * 2 ^ bits) % 2 ^ 64) ((2 ^ bits) % 2 ^ 64) (in_words row) n ≡ in_words (row_addresses bits row i n)
rows_words bits row i zero = refl
rows_words bits row i (suc n) =
    ap (λ l. l ++ rows_at (((i * 2 ^ bits) % 2 ^ 64 + (2 ^ bits) % 2 ^ 64) % 2 ^ 64) ((2 ^ bits) % 2 ^ 64) (in_words row) n) (row_words (i * 2 ^ bits) row)
    ∙ ap (λ s. in_words (map (λ low. i * 2 ^ bits + low) row) ++ rows_at s ((2 ^ bits) % 2 ^ 64) (in_words row) n) (next_start i (2 ^ bits))
    ∙ ap (λ l. in_words (map (λ low. i * 2 ^ bits + low) row) ++ l) (rows_words bits row (suc i) n)
    ∙ sym (in_words-append (map (λ low. i * 2 ^ bits + low) row) (row_addresses bits row (suc i) n))

pub addresses_words : (len : ℕ) (dims : List ℕ) (size : ℕ) (row all lengths : List ℕ) → lengths ≡ len ∷ dims → size ≡ (2 ^ address_bits dims) % 2 ^ 64 → row ≡ in_words (addresses dims) → all ≡ rows_at 0 size row len
    → all ≡ in_words (addresses lengths)
addresses_words len dims size row all lengths e s r a =
    let zero_start : 0 ≡ (0 * 2 ^ address_bits dims) % 2 ^ 64 = (let none : 0 * 2 ^ address_bits dims ≡ 0 = omega arith in sym (ap (λ n. n % 2 ^ 64) none)) in
    a ∙ ap (λ x. rows_at x size row len) zero_start ∙ ap (λ x. rows_at ((0 * 2 ^ address_bits dims) % 2 ^ 64) x row len) s
    ∙ ap (λ x. rows_at ((0 * 2 ^ address_bits dims) % 2 ^ 64) ((2 ^ address_bits dims) % 2 ^ 64) x len) r
    ∙ rows_words (address_bits dims) (addresses dims) 0 len ∙ ap (λ l. in_words (addresses l)) (sym e)

pub rows_on : (all new row : List ℕ) (start size k n : ℕ) (whole : List ℕ) → k < n → all ++ rows_at start size row (n - k) ≡ whole → new ≡ all ++ map (λ low. (start + low) % 2 ^ 64) row
    → new ++ rows_at ((start + size) % 2 ^ 64) size row (n - (k + 1)) ≡ whole
rows_on all new row start size k n whole h at is =
    let left : n - k ≡ suc (n - (k + 1)) = omega arith in
    let one : all ++ (map (λ low. (start + low) % 2 ^ 64) row ++ rows_at ((start + size) % 2 ^ 64) size row (n - (k + 1))) ≡ whole = rw left at at in
    rw is (append_assoc all (map (λ low. (start + low) % 2 ^ 64) row) (rows_at ((start + size) % 2 ^ 64) size row (n - (k + 1))) ∙ one)

product-mod : (m x y : ℕ) → (x * (y % m)) % m ≡ (x * y) % m
product-mod m x y =
    let whole : y % m + y / m * m ≡ y = mod-add-div' y m in
    let e : x * y ≡ x * (y % m) + x * (y / m) * m = ap (λ n. x * n) (sym whole) ∙ mul-add x (y % m) (y / m * m) ∙ ap (λ n. x * (y % m) + n) (sym (mul_assoc x (y / m) m)) in
    sym (ap (λ n. n % m) e ∙ add-mul-mod_self_right (x * (y % m)) (x * (y / m)) m)

pub size_words : (len own rest result : ℕ) (dims lengths : List ℕ) → lengths ≡ len ∷ dims → own ≡ 2 ^ subscript_bits len → rest ≡ (2 ^ address_bits dims) % 2 ^ 64 → result ≡ (own * rest) % 2 ^ 64
    → result ≡ (2 ^ address_bits lengths) % 2 ^ 64
size_words len own rest result dims lengths e o r is =
    is ∙ ap (λ n. (n * rest) % 2 ^ 64) o ∙ ap (λ n. (2 ^ subscript_bits len * n) % 2 ^ 64) r ∙ product-mod (2 ^ 64) (2 ^ subscript_bits len) (2 ^ address_bits dims)
    ∙ ap (λ n. n % 2 ^ 64) (sym (pow-add 2 (subscript_bits len) (address_bits dims))) ∙ ap (λ l. (2 ^ address_bits l) % 2 ^ 64) (sym e)

pub own_size : (bits k : ℕ) → bits ≡ k → bits ≤ 16 → (1 * 2 ^ bits) % 2 ^ 64 ≡ 2 ^ k
own_size bits k e h =
    let power : 2 ^ bits ≤ 2 ^ 16 = pow-le-pow_right (omega arith) h in
    let less : 1 * 2 ^ bits < 2 ^ 64 = omega arith in
    mod-eq_of_lt less ∙ (let one : 1 * 2 ^ bits ≡ 2 ^ bits = omega arith in one) ∙ ap (λ n. 2 ^ n) e
