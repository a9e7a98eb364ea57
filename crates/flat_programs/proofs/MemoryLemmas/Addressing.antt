-- The address at some subscripts, one subscript after another.
use Rattle.std.proofs.Common.{◌≡◌, ℕ, zero, suc, ◌+◌, ◌*◌, ◌%◌, ◌^◌, ◌<◌, ◌≤◌, true, false, List, [], ◌∷◌, length, get_or, drop, map, refl, sym, ap, ◌∙◌, subst, arith}
use Rattle.std.specs.Prelude.{nat_lt, ◌&&◌}
use Rattle.std.proofs.Math.Nat.{pow-le-pow_right, le-mul_of_pos_right}
use Rattle.std.proofs.lemmas.Nat.{pow-add, pow_pos, mul-add-lt, mod_below}
use Rattle.std.proofs.lemmas.List.{drop_more, drop_all, get_or-drop, get_or-map, length-map}
use Rattle.std.proofs.lemmas.List.Sums.{count_by-le-length}
use Rattle.std.proofs.lemmas.Bool.{le-ltb, lt-ltb}
use Rattle.hls_base.specs.ArrayAddress.{subscript_bits, address_bits}
use Rattle.ir_core.specs.Bodies.{address_of, is_within}

pub few_bits : (len : ℕ) → subscript_bits len ≤ 16
few_bits len = omega (arith, count_by-le-length (λ k. nat_lt (2 ^ k) len) (1 ∷ 2 ∷ 3 ∷ 4 ∷ 5 ∷ 6 ∷ 7 ∷ 8 ∷ 9 ∷ 10 ∷ 11 ∷ 12 ∷ 13 ∷ 14 ∷ 15 ∷ []))

zero_mod : (bits : ℕ) → 0 % 2 ^ bits ≡ 0
zero_mod bits = omega (arith, mod_below 0 (2 ^ bits) (pow_pos bits))

none_left : (dims : List ℕ) → address_of dims [] ≡ 0
none_left [] = refl
none_left (len ∷ dims) = refl

next_of : (dims subs : List ℕ) (len : ℕ) → address_of (len ∷ dims) subs ≡ (get_or subs 0 0 % 2 ^ subscript_bits len) * 2 ^ address_bits dims + address_of dims (drop 1 subs)
next_of dims [] len =
    let b = 2 ^ address_bits dims in
    let none : 0 * b + address_of dims [] ≡ 0 = omega (arith, none_left dims) in
    sym (ap (λ z. z * b + address_of dims []) (zero_mod (subscript_bits len)) ∙ none)
next_of dims (i ∷ subs) len = refl

regrouped : (a low s b rest : ℕ) → a * (s * b) + (low * b + rest) ≡ (a * s + low) * b + rest
regrouped a low s b rest = omega arith

address_step : (address len : ℕ) (dims subs : List ℕ) → address * 2 ^ address_bits (len ∷ dims) + address_of (len ∷ dims) subs ≡ (address * 2 ^ subscript_bits len + get_or subs 0 0 % 2 ^ subscript_bits len) * 2 ^ address_bits dims + address_of dims (drop 1 subs)
address_step address len dims subs =
    ap (λ p. address * p + address_of (len ∷ dims) subs) (pow-add 2 (subscript_bits len) (address_bits dims))
    ∙ ap (λ r. address * (2 ^ subscript_bits len * 2 ^ address_bits dims) + r) (next_of dims subs len)
    ∙ regrouped address (get_or subs 0 0 % 2 ^ subscript_bits len) (2 ^ subscript_bits len) (2 ^ address_bits dims) (address_of dims (drop 1 subs))

pub address_bound : (dims subs : List ℕ) → address_of dims subs < 2 ^ address_bits dims
address_bound [] subs = omega arith
address_bound (len ∷ dims) [] = pow_pos (subscript_bits len + address_bits dims)
address_bound (len ∷ dims) (i ∷ subs) =
    let low : i % 2 ^ subscript_bits len < 2 ^ subscript_bits len = mod_below i (2 ^ subscript_bits len) (pow_pos (subscript_bits len)) in
    let both = mul-add-lt (i % 2 ^ subscript_bits len) (2 ^ address_bits dims) (address_of dims subs) (2 ^ subscript_bits len) low (address_bound dims subs) in
    let power = pow-add 2 (subscript_bits len) (address_bits dims) in
    let turned : 2 ^ address_bits dims * 2 ^ subscript_bits len ≡ 2 ^ subscript_bits len * 2 ^ address_bits dims = omega arith in
    subst (λ p. (i % 2 ^ subscript_bits len) * 2 ^ address_bits dims + address_of dims subs < p) (turned ∙ sym power) both

drop_suc : (i : ℕ) (xs : List ℕ) → drop 1 (drop i xs) ≡ drop (suc i) xs
drop_suc zero xs = refl
drop_suc (suc i) [] = refl
drop_suc (suc i) (x ∷ xs) = drop_suc i xs

drop_next : (i : ℕ) (xs : List ℕ) → drop 1 (drop i xs) ≡ drop (i + 1) xs
drop_next i xs = drop_suc i xs ∙ ap (λ k. drop k xs) (let e : suc i ≡ i + 1 = omega arith in e)

first_left : (i : ℕ) (xs : List ℕ) → get_or (drop i xs) 0 0 ≡ get_or xs i 0
first_left i xs = get_or-drop i xs 0 0 ∙ ap (λ k. get_or xs k 0) (let e : i + 0 ≡ i = omega arith in e)

abbrev pub Left : List ℕ → List ℕ → ℕ → ℕ → Type 0
Left lengths subs i address = address * 2 ^ address_bits (drop i lengths) + address_of (drop i lengths) (drop i subs) ≡ address_of lengths subs

own_bits : (lengths bits : List ℕ) (i own : ℕ) → bits ≡ map subscript_bits lengths → i < length bits → own ≡ get_or bits i 0 → (i < length lengths) × (own ≡ subscript_bits (get_or lengths i 0))
own_bits lengths bits i own e h o =
    let inside : i < length lengths = omega (arith, h, ap length e, length-map lengths subscript_bits) in
    (inside, o ∙ ap (λ l. get_or l i 0) e ∙ get_or-map subscript_bits lengths i 0 0 inside)

pub few_own : (lengths bits : List ℕ) (i own : ℕ) → bits ≡ map subscript_bits lengths → i < length bits → own ≡ get_or bits i 0 → own ≤ 16
few_own lengths bits i own e h o = let k = own_bits lengths bits i own e h o in omega (arith, k.1, few_bits (get_or lengths i 0))

pub left_more : (lengths bits subs : List ℕ) (i own low address : ℕ) → bits ≡ map subscript_bits lengths → i < length bits → own ≡ get_or bits i 0 → low ≡ get_or subs i 0 % 2 ^ own → Left lengths subs i address
    → Left lengths subs (i + 1) (address * 2 ^ own + low)
left_more lengths bits subs i own low address e h o l given =
    let k = own_bits lengths bits i own e h o in
    let len = get_or lengths i 0 in
    let rest = drop (i + 1) lengths in
    let head : address * 2 ^ address_bits (len ∷ rest) + address_of (len ∷ rest) (drop i subs) ≡ address_of lengths subs =
    subst (λ ds. address * 2 ^ address_bits ds + address_of ds (drop i subs) ≡ address_of lengths subs) (drop_more lengths i 0 k.0) given in
    let own_is : 2 ^ own ≡ 2 ^ subscript_bits len = ap (λ n. 2 ^ n) k.1 in
    let low_is : low ≡ get_or (drop i subs) 0 0 % 2 ^ subscript_bits len = l ∙ ap (λ p. get_or subs i 0 % p) own_is ∙ ap (λ x. x % 2 ^ subscript_bits len) (sym (first_left i subs)) in
    ap (λ p. (address * p + low) * 2 ^ address_bits rest + address_of rest (drop (i + 1) subs)) own_is
    ∙ ap (λ x. (address * 2 ^ subscript_bits len + x) * 2 ^ address_bits rest + address_of rest (drop (i + 1) subs)) low_is
    ∙ ap (λ s. (address * 2 ^ subscript_bits len + get_or (drop i subs) 0 0 % 2 ^ subscript_bits len) * 2 ^ address_bits rest + address_of rest s) (sym (drop_next i subs))
    ∙ sym (address_step address len rest (drop i subs)) ∙ head

pub left_fits : (lengths subs : List ℕ) (i address : ℕ) → address_bits lengths ≤ 32 → Left lengths subs i address → address < 2 ^ 64
left_fits lengths subs i address h given =
    let bound = address_bound lengths subs in
    let power : 2 ^ address_bits lengths ≤ 2 ^ 32 = pow-le-pow_right (omega arith) h in
    let grows = le-mul_of_pos_right address (pow_pos (address_bits (drop i lengths))) in
    omega (arith, given, bound, power, grows)

pub left_all : (lengths bits subs : List ℕ) (address : ℕ) → bits ≡ map subscript_bits lengths → Left lengths subs (length bits) address → address ≡ address_of lengths subs
left_all lengths bits subs address e given =
    let all : length lengths ≤ length bits = omega (arith, ap length e, length-map lengths subscript_bits) in
    let none : address * 2 ^ address_bits [] + address_of [] (drop (length bits) subs) ≡ address_of lengths subs =
    subst (λ ds. address * 2 ^ address_bits ds + address_of ds (drop (length bits) subs) ≡ address_of lengths subs) (drop_all (length bits) lengths all) given in
    omega (arith, none)

-- ---- subscripts in range

pub within_none : (dims : List ℕ) → is_within dims [] ≡ true
within_none [] = refl
within_none (len ∷ dims) = refl

-- behind the last subscript
pub within_past : (lengths subs : List ℕ) (i : ℕ) → length subs ≤ i → is_within (drop i lengths) (drop i subs) ≡ is_within (drop (i + 1) lengths) (drop (i + 1) subs)
within_past lengths subs i h =
    ap (is_within (drop i lengths)) (drop_all i subs h) ∙ within_none (drop i lengths)
    ∙ sym (ap (is_within (drop (i + 1) lengths)) (drop_all (i + 1) subs (omega arith)) ∙ within_none (drop (i + 1) lengths))

within_head : (lengths subs : List ℕ) (i : ℕ) → i < length lengths → i < length subs → is_within (drop i lengths) (drop i subs) ≡ (nat_lt (get_or subs i 0) (get_or lengths i 0) && is_within (drop (i + 1) lengths) (drop (i + 1) subs))
within_head lengths subs i h k = ap (λ ds. is_within ds (drop i subs)) (drop_more lengths i 0 h) ∙ ap (is_within (get_or lengths i 0 ∷ drop (i + 1) lengths)) (drop_more subs i 0 k)

pub within_more : (lengths subs : List ℕ) (i : ℕ) → i < length lengths → i < length subs → get_or subs i 0 < get_or lengths i 0 → is_within (drop i lengths) (drop i subs) ≡ is_within (drop (i + 1) lengths) (drop (i + 1) subs)
within_more lengths subs i h k below = within_head lengths subs i h k ∙ ap (λ b. b && is_within (drop (i + 1) lengths) (drop (i + 1) subs)) (lt-ltb (get_or subs i 0) (get_or lengths i 0) below)

pub within_not : (lengths subs : List ℕ) (i : ℕ) → i < length lengths → i < length subs → get_or lengths i 0 ≤ get_or subs i 0 → is_within (drop i lengths) (drop i subs) ≡ false
within_not lengths subs i h k above = within_head lengths subs i h k ∙ ap (λ b. b && is_within (drop (i + 1) lengths) (drop (i + 1) subs)) (le-ltb (get_or subs i 0) (get_or lengths i 0) above)
