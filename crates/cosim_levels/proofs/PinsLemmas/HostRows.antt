-- The values of the inputs, as the driver writes them.
use Rattle.std.proofs.Common.{◌≡◌, ℕ, zero, suc, ◌+◌, ◌-◌, ◌<◌, ◌≤◌, List, [], ◌∷◌, ◌++◌, length, get_or, take, replicate, slice_set, refl, sym, ap, arith}
use Rattle.std.proofs.lemmas.List.{take_more, length-take-le}

seven : (n : ℕ) → 7 ≤ n → replicate {A = ℕ} n 0 ≡ 0 ∷ 0 ∷ 0 ∷ 0 ∷ 0 ∷ 0 ∷ 0 ∷ replicate (n - 7) 0
seven n h = let e : n ≡ suc (suc (suc (suc (suc (suc (suc (n - 7))))))) = omega arith in ap (λ m. replicate {A = ℕ} m 0) e

pub row_set : (pins : List ℕ) (n a b c d e f g : ℕ) → 7 ≤ n → pins ≡ replicate n 0
    → slice_set (slice_set (slice_set (slice_set (slice_set (slice_set (slice_set pins 0 a) 1 b) 2 c) 3 d) 4 e) 5 f) 6 g ≡ a ∷ b ∷ c ∷ d ∷ e ∷ f ∷ g ∷ replicate (n - 7) 0
row_set pins n a b c d e f g h is = rw (is, seven n h) refl

set_behind : (k : ℕ) (xs : List ℕ) (m x : ℕ) → k ≡ length xs → 0 < m → slice_set (xs ++ replicate m 0) k x ≡ (xs ++ x ∷ []) ++ replicate (m - 1) 0
set_behind k [] m x e h = let s : m ≡ suc (m - 1) = omega arith in (let z : k ≡ 0 = e in rw z (ap (λ n. slice_set (replicate n 0) 0 x) s))
set_behind zero (y ∷ xs) m x e h = absurd (omega arith)
set_behind (suc k) (y ∷ xs) m x e h = ap (λ l. y ∷ l) (set_behind k xs m x (omega arith) h)

-- one more argument is written
pub argument_set : (pins args : List ℕ) (k : ℕ) → k < length args → pins ≡ 0 ∷ 1 ∷ 0 ∷ 0 ∷ 0 ∷ 0 ∷ 0 ∷ (take k args ++ replicate (length args - k) 0)
    → slice_set pins (7 + k) (get_or args k 0) ≡ 0 ∷ 1 ∷ 0 ∷ 0 ∷ 0 ∷ 0 ∷ 0 ∷ (take (k + 1) args ++ replicate (length args - (k + 1)) 0)
argument_set pins args k h is =
    let place : 7 + k ≡ suc (suc (suc (suc (suc (suc (suc k)))))) = omega arith in
    let count : k ≡ length (take k args) = sym (length-take-le k args (omega arith)) in
    let more : take (k + 1) args ≡ take k args ++ get_or args k 0 ∷ [] = take_more args k 0 h in
    let left : length args - k - 1 ≡ length args - (k + 1) = omega arith in
    rw (is, place, more, ← left) (ap (λ l. 0 ∷ 1 ∷ 0 ∷ 0 ∷ 0 ∷ 0 ∷ 0 ∷ l) (set_behind k (take k args) (length args - k) (get_or args k 0) count (omega arith)))
