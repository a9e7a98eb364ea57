-- Digits that follow never make a number smaller.
use Rattle.std.proofs.Common.{◌≡◌, ℕ, zero, suc, ◌+◌, ◌-◌, ◌*◌, ◌^◌, ◌<◌, ◌≤◌, Bool, true, false, List, [], ◌∷◌, drop, length, get_or, Option, None, arith, ◌⊎◌, inl, inr}
use Rattle.std.specs.Prelude.{IfSome, if◌then◌else◌}
use Rattle.command_words.specs.Words.{is_digit, value_behind}

if_digit : (b : Bool) (o : Option ℕ) (m : ℕ) → IfSome o (λ k. m ≤ k) → IfSome (if b then o else None) (λ k. m ≤ k)
if_digit true o m h = h
if_digit false o m h = tt

at_least : (m n : ℕ) (cs : List ℕ) → m ≤ n → IfSome (value_behind n cs) (λ k. m ≤ k)
at_least m n [] le = le
at_least m n (c ∷ cs) le = if_digit (is_digit c) (value_behind (n * 10 + (c - 48)) cs) m (at_least m (n * 10 + (c - 48)) cs (omega arith))

no_digit : (b : Bool) (o : Option ℕ) (m : ℕ) → b ≡ false → IfSome (if b then o else None) (λ k. m ≤ k)
no_digit true o m e = absurd cc
no_digit false o m e = tt

-- a byte at which there is no number of 64 bits
at_byte : (n c : ℕ) (cs : List ℕ) → (is_digit c ≡ false) ⊎ (2 ^ 64 ≤ n * 10 + (c - 48)) → IfSome (value_behind n (c ∷ cs)) (λ k. 2 ^ 64 ≤ k)
at_byte n c cs (inl none) = no_digit (is_digit c) (value_behind (n * 10 + (c - 48)) cs) (2 ^ 64) none
at_byte n c cs (inr large) = if_digit (is_digit c) (value_behind (n * 10 + (c - 48)) cs) (2 ^ 64) (at_least (2 ^ 64) (n * 10 + (c - 48)) cs large)

pub stops : (n i d : ℕ) (ds : List ℕ) → i < length ds → (is_digit (get_or ds i d) ≡ false) ⊎ (2 ^ 64 ≤ n * 10 + (get_or ds i d - 48)) → IfSome (value_behind n (drop i ds)) (λ k. 2 ^ 64 ≤ k)
stops n i d [] lt h = absurd (omega arith)
stops n zero d (c ∷ cs) lt h = at_byte n c cs h
stops n (suc i) d (c ∷ cs) lt h = stops n i d cs (omega arith) h
