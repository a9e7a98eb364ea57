-- Numbers of words that are moved up and cut.
use Rattle.std.proofs.Common.{◌≡◌, ℕ, suc, zero, ◌+◌, ◌-◌, ◌*◌, ◌%◌, ◌/◌, ◌^◌, ◌<◌, ◌≤◌, inl, inr, Bool, true, false, cond, List, [], ◌∷◌, ◌++◌, map, length, take, replicate, refl, sym, ap, ◌∙◌, subst, arith}
use Rattle.std.proofs.lemmas.List.{map-append, take-take}
use Rattle.std.proofs.lemmas.Nat.{pow-add, mul-mod_first}
use Rattle.std.proofs.Math.Nat.{add-mul-mod_self_left, mod-eq_of_lt, mod-lt, div-add-mod, mul-mod_left, mul_assoc, pow-suc}
use Rattle.aig_graph.specs.Graphs.{literal}
use Rattle.aig_graph.specs.Words.{number, bits, worth, shifted, IsStep}
use Rattle.aig_graph.proofs.Numbers.{bits_length, number_below}

pub positive : (n : ℕ) → 0 < 2 ^ n
positive zero = omega arith
positive (suc n) = let h = positive n in let e : 2 ^ suc n ≡ 2 ^ n * 2 = pow-suc 2 n in omega arith

-- a bit below a number that is cut
pub cut_more : (b x m : ℕ) → b < 2 → 0 < m → b + 2 * (x % m) ≡ (b + 2 * x) % (2 * m)
cut_more b x m low some =
    let r : x % m < m = mod-lt x some in
    let whole : m * (x / m) + x % m ≡ x = div-add-mod x m in
    let grouped : 2 * m * (x / m) ≡ 2 * (m * (x / m)) = mul_assoc 2 m (x / m) in
    let split : b + 2 * x ≡ (b + 2 * (x % m)) + 2 * m * (x / m) = omega arith in
    sym (ap (λ z. z % (2 * m)) split ∙ (add-mul-mod_self_left (b + 2 * (x % m)) (2 * m) (x / m) ∙ mod-eq_of_lt (omega arith)))

bit_low : (b : Bool) → worth b 1 < 2
bit_low true = omega arith
bit_low false = omega arith

pub next_power : (n : ℕ) → 2 ^ suc n ≡ 2 * 2 ^ n
next_power n = let e : 2 ^ suc n ≡ 2 ^ n * 2 = pow-suc 2 n in omega arith

pub number_take : (n : ℕ) (bs : List Bool) → number (take n bs) ≡ number bs % 2 ^ n
number_take zero bs = sym (let h : number bs % 1 ≡ 0 = omega arith in h)
number_take (suc n) [] = sym (mod-eq_of_lt (positive (suc n)))
number_take (suc n) (b ∷ bs) =
    ap (λ z. worth b 1 + 2 * z) (number_take n bs) ∙ (cut_more (worth b 1) (number bs) (2 ^ n) (bit_low b) (positive n) ∙ ap (λ z. (worth b 1 + 2 * number bs) % z) (sym (next_power n)))

pub number_zeros : (s : ℕ) (bs : List Bool) → number (replicate s false ++ bs) ≡ number bs * 2 ^ s
number_zeros zero bs = (let e : number bs ≡ number bs * 1 = omega arith in e)
number_zeros (suc s) bs =
    let h : number (replicate s false ++ bs) ≡ number bs * 2 ^ s = number_zeros s bs in
    let e : number bs * 2 ^ suc s ≡ number bs * 2 ^ s * 2 = ap (λ z. number bs * z) (pow-suc 2 s) ∙ sym (mul_assoc (number bs) (2 ^ s) 2) in
    omega arith

pub map_take : (f : ℕ → Bool) (n : ℕ) (ls : List ℕ) → map f (take n ls) ≡ take n (map f ls)
map_take f zero ls = refl
map_take f (suc n) [] = refl
map_take f (suc n) (l ∷ ls) = ap (λ z. f l ∷ z) (map_take f n ls)

pub map_zeros : (w : List Bool) (s : ℕ) → literal w 0 ≡ false → bits w (replicate s 0) ≡ replicate s false
map_zeros w zero e = refl
map_zeros w (suc s) e = ap (λ z. z ∷ bits w (replicate s 0)) e ∙ ap (λ z. false ∷ z) (map_zeros w s e)

pub number_shifted : (w : List Bool) (s : ℕ) (ls : List ℕ) → literal w 0 ≡ false → number (bits w (take (length ls) (shifted s ls))) ≡ number (bits w ls) * 2 ^ s % 2 ^ length ls
number_shifted w s ls e =
    let n = length ls in
    ap (λ z. number (bits w z)) (take-take n n (replicate s 0 ++ ls) (omega arith))
    ∙ (ap number (map_take (literal w) n (replicate s 0 ++ ls))
    ∙ (number_take n (bits w (replicate s 0 ++ ls))
    ∙ ap (λ z. z % 2 ^ n) (ap number (map-append (literal w) (replicate s 0) ls ∙ ap (λ z. z ++ bits w ls) (map_zeros w s e)) ∙ number_zeros s (bits w ls))))

-- all bits are moved away
moved_away : (x s n : ℕ) → n ≤ s → x * 2 ^ s % 2 ^ n ≡ 0
moved_away x s n h =
    let sum : (s - n) + n ≡ s = omega arith in
    let power : 2 ^ s ≡ 2 ^ (s - n) * 2 ^ n = ap (λ z. 2 ^ z) (sym sum) ∙ pow-add 2 (s - n) n in
    ap (λ z. z % 2 ^ n) (ap (λ z. x * z) power ∙ sym (mul_assoc x (2 ^ (s - n)) (2 ^ n))) ∙ mul-mod_left (x * 2 ^ (s - n)) (2 ^ n)

moved_more : (N K W n step : ℕ) → W ≡ N * 2 ^ K % 2 ^ n → W * 2 ^ step % 2 ^ n ≡ N * 2 ^ (K + step) % 2 ^ n
moved_more N K W n step e =
    ap (λ z. z * 2 ^ step % 2 ^ n) e
    ∙ (mul-mod_first (N * 2 ^ K) (2 ^ step) (2 ^ n) ∙ ap (λ z. z % 2 ^ n) (mul_assoc N (2 ^ K) (2 ^ step) ∙ ap (λ z. N * z) (sym (pow-add 2 K step))))

-- a bit more of the count
pub shift_more : (t : Bool) (N K W n i step : ℕ) → IsStep i step → n ≤ 128 → W ≡ N * 2 ^ K % 2 ^ n → cond t (W * 2 ^ step % 2 ^ n) W ≡ N * 2 ^ (K + worth t (2 ^ i)) % 2 ^ n
shift_more true N K W n i step (inl e) narrow h = moved_more N K W n step h ∙ ap (λ z. N * 2 ^ (K + z) % 2 ^ n) e
shift_more true N K W n i step (inr far) narrow h =
    let large : 128 ≤ 2 ^ i = far.1 in
    let long : step ≡ 128 = far.0 in
    moved_away W step n (omega arith) ∙ sym (moved_away N (K + 2 ^ i) n (omega arith))
shift_more false N K W n i step s narrow h = h ∙ ap (λ z. N * 2 ^ z % 2 ^ n) (let e : K ≡ K + 0 = omega arith in e)

pub choose_number : (t : Bool) (bs xs ys : List Bool) (X Y : ℕ) → bs ≡ cond t xs ys → number xs ≡ X → number ys ≡ Y → number bs ≡ cond t X Y
choose_number true bs xs ys X Y e f g = ap number e ∙ f
choose_number false bs xs ys X Y e f g = ap number e ∙ g

pub number_start : (w : List Bool) (ls : List ℕ) → number (bits w ls) ≡ number (bits w ls) * 1 % 2 ^ length ls
number_start w ls =
    let e : number (bits w ls) * 1 ≡ number (bits w ls) = omega arith in
    sym (ap (λ z. z % 2 ^ length ls) e ∙ mod-eq_of_lt (subst (λ z. number (bits w ls) < 2 ^ z) (bits_length w ls) (number_below (bits w ls))))
