-- Four spaces more.
use Rattle.std.proofs.Common.{◌≡◌, ℕ, zero, suc, ◌+◌, ◌∙◌, refl, ap, ◌++◌, codes, arith}
use Rattle.c_tree.specs.RowText.{indentation}

one_more : (n : ℕ) → indentation (suc n) ≡ indentation n ++ codes "    "
one_more zero = refl
one_more (suc n) = ap (λ xs. codes "    " ++ xs) (one_more n)

pub indentation_more : (n : ℕ) → indentation (n + 1) ≡ indentation n ++ codes "    "
indentation_more n = let e : n + 1 ≡ suc n = omega arith in ap indentation e ∙ one_more n
