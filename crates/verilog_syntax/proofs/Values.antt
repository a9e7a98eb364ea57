-- The numbers that digits write.
use Rattle.std.proofs.Common.{◌≡◌, ℕ, ◌+◌, ◌*◌, ◌<◌, List, [], ◌∷◌, ◌++◌, length, take, get_or, refl, ap, ◌∙◌}
use Rattle.std.proofs.lemmas.List.{take_more}
use Rattle.rtl_core.specs.ModuleTokens.{value_behind, digit_value}

pub value_append : (base n : ℕ) (xs ys : List ℕ) → value_behind base n (xs ++ ys) ≡ value_behind base (value_behind base n xs) ys
value_append base n [] ys = refl
value_append base n (x ∷ xs) ys = value_append base (n * base + digit_value x) xs ys

pub value_more : (base : ℕ) (xs : List ℕ) (i : ℕ) → i < length xs → value_behind base 0 (take (i + 1) xs) ≡ value_behind base 0 (take i xs) * base + digit_value (get_or xs i 0)
value_more base xs i h = ap (value_behind base 0) (take_more xs i 0 h) ∙ value_append base 0 (take i xs) (get_or xs i 0 ∷ [])
