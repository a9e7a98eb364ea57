-- Words of a line, one after another.
use Rattle.std.proofs.Common.{◌≡◌, ℕ, List, [], ◌∷◌, ◌++◌, Option, Some, None, refl, sym, ap, append_assoc}
use Rattle.cosim_levels.specs.Numerals.{first_and_others, bits_of_word, bits_of_words}
use Rattle.c_token.specs.declared.ctype.CType.{CType}

-- these numbers before others, if those are there
abbrev pub before : List ℕ → Option (List ℕ) → Option (List ℕ)
before ns None = None
before ns (Some more) = Some (ns ++ more)

before-first : (ns : List ℕ) (n : ℕ) (o : Option (List ℕ)) → before ns (first_and_others (Some n) o) ≡ before (ns ++ n ∷ []) o
before-first ns n None = refl
before-first ns n (Some more) = ap (λ l. Some l) (sym (append_assoc ns (n ∷ []) more))

pub bits_found : (ns : List ℕ) (n : ℕ) (kind : CType) (word : List ℕ) (words : List (List ℕ)) → Some n ≡ bits_of_word kind word
    → before ns (bits_of_words kind (word ∷ words)) ≡ before (ns ++ n ∷ []) (bits_of_words kind words)
bits_found ns n kind word words e = rw (← e) (before-first ns n (bits_of_words kind words))

pub bits_missing : (ns : List ℕ) (kind : CType) (word : List ℕ) (words : List (List ℕ)) → None ≡ bits_of_word kind word
    → before ns (bits_of_words kind (word ∷ words)) ≡ None
bits_missing ns kind word words e = rw (← e) refl
