-- The names of registers, memories and wires: they are names, and none is another's or a pin's.
use Rattle.std.proofs.Common.{◌≡◌, ◌≢◌, ◌⊎◌, inr, ℕ, suc, ◌+◌, ◌^◌, ◌<◌, ◌≤◌, ◌∙◌, sym, refl, ap, subst, Bool, true, false, ◌&&◌, List, [], ◌∷◌, length, get_or, arith}
use Rattle.std.specs.Prelude.{codes, nat_le, not}
use Rattle.std.specs.Fmt.{decimal}
use Rattle.std.specs.List.{All, Contains}
use Rattle.std.proofs.lemmas.Bool.{both_ways, le-leb, and_from}
use Rattle.std.proofs.lemmas.List.Elements.{All-nil, All-cons, All-head, All-weaker}
use Rattle.rtl_core.specs.Valid.{IsLetter, IsDigit, IsIdentifier, IsName, reserved_words, AreDistinct}
use Rattle.rtl_core.specs.ModuleTokens.{IsNumber}
use Rattle.verilog_print.specs.PrintedSyntax.{numbered}
use Rattle.verilog_print.specs.PrintableNames.{IsNumbered}
use Rattle.verilog_print.proofs.Digits.{IsNumber-decimal, decimal-same}
use Rattle.verilog_print.proofs.Lists.{all_pass}

-- a letter and the digits of a number
abbrev pub name_with : ℕ → ℕ → List ℕ
name_with c k = c ∷ decimal k

pub name_is_identifier : (c k : ℕ) → IsLetter c → k < 10 ^ 64 → IsIdentifier (name_with c k)
name_is_identifier c k letter small = (letter, All-weaker IsDigit (λ c. IsLetter c ⊎ IsDigit c) (λ c d. inr d) (decimal k) (IsNumber-decimal k small).1)

-- a digit stands behind the first byte
abbrev pub has_digit : List ℕ → Bool
has_digit [] = false
has_digit (c ∷ []) = false
has_digit (c ∷ d ∷ ds) = nat_le 48 d && nat_le d 57

digits_begin : (c : ℕ) (ds : List ℕ) → IsNumber ds → has_digit (c ∷ ds) ≡ true
digits_begin c [] h = absurd (let none = h.0 in omega arith)
digits_begin c (d ∷ ds) h = let first = All-head IsDigit d ds h.1 in and_from (nat_le 48 d) (nat_le d 57) (le-leb 48 d first.0) (le-leb d 57 first.1)

-- a name without a digit behind its first byte is none of a register, a memory or a wire
pub not_numbered : (name : List ℕ) → has_digit name ≡ false → ¬ IsNumbered name
not_numbered [] none h = h
not_numbered (c ∷ cs) none h = both_ways (has_digit (c ∷ cs)) none (digits_begin c cs h.1)

not_true : (b : Bool) → not b ≡ true → b ≡ false
not_true true h = sym h
not_true false h = refl

pub name_is_name : (c k : ℕ) → IsLetter c → k < 10 ^ 64 → IsName (name_with c k)
name_is_name c k letter small = record {
  identifier = name_is_identifier c k letter small;
  free =
      All-weaker (λ word. not (has_digit word) ≡ true) (λ word. word ≢ name_with c k)
      (λ word no_digit same. both_ways (has_digit word) (not_true (has_digit word) no_digit) (ap has_digit same ∙ digits_begin c (decimal k) (IsNumber-decimal k small)))
      reserved_words (all_pass (λ word. not (has_digit word)) reserved_words refl);
}

-- the name of a number from j on with this letter
abbrev pub IsNameFrom : ℕ → ℕ → List ℕ → Type 0
IsNameFrom c j y = (k : ℕ) × (j ≤ k) × (k < 10 ^ 64) × (y ≡ name_with c k)

abbrev pub names_by_number : {X : Type 0} → ℕ → ℕ → List X → List (List ℕ)
names_by_number c j xs = numbered (λ k x. name_with c k) j xs

pub names_from : {X : Type 0} (c i j : ℕ) (xs : List X) → i ≤ j → j + length xs < 10 ^ 64 → All (IsNameFrom c i) (names_by_number c j xs)
names_from c i j [] le h = All-nil (IsNameFrom c i)
names_from c i j (x ∷ xs) le h =
    All-cons (IsNameFrom c i) (name_with c j) (names_by_number c (suc j) xs) (j, le, omega arith, refl) (names_from c i (suc j) xs (omega arith) (omega arith))

rest_same : (c d : ℕ) (xs ys : List ℕ) → c ∷ xs ≡ d ∷ ys → xs ≡ ys
rest_same c d xs ys e = cc

pub names_distinct : {X : Type 0} (c j : ℕ) (xs : List X) → j + length xs < 10 ^ 64 → AreDistinct (names_by_number c j xs)
names_distinct c j [] h = tt
names_distinct c j (x ∷ xs) h = (
  All-weaker (IsNameFrom c (suc j)) (λ y. name_with c j ≢ y)
      (λ y named same. let numbers : j ≡ named.0 = decimal-same j named.0 (omega arith) named.2 (rest_same c c (decimal j) (decimal named.0) (same ∙ named.3)) in omega (arith, named.1))
      (names_by_number c (suc j) xs) (names_from c (suc j) (suc j) xs (omega arith) (omega arith)),
  names_distinct c (suc j) xs (omega arith),
)

pub letters_differ : (c d : ℕ) → c ≢ d → (x y : List ℕ) → IsNameFrom c 0 x → IsNameFrom d 0 y → x ≢ y
letters_differ c d differ x y p q same =
    differ (let whole : name_with c p.0 ≡ name_with d q.0 = sym p.3 ∙ same ∙ q.3 in ap (λ s. get_or s 0 0) whole)

pub pins_differ : (c : ℕ) → Contains (codes "rmw") c → (x y : List ℕ) → ¬ IsNumbered x → IsNameFrom c 0 y → x ≢ y
pins_differ c letter x y free named same =
    free (subst IsNumbered (sym (same ∙ named.3)) (letter, IsNumber-decimal named.0 named.2))
