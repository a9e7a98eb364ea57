-- Numbers of a type and their bit patterns, and the labels of a switch.
use Rattle.std.proofs.Common.{◌≡◌, ℕ, ◌==◌, ◌∙◌, sym, refl, ap, inl, inr, not, Bool, true, false, true≢false, if◌then◌else◌, ℤ, pos, Option, Some, None, eq-eqb, ne_eqb}
use Rattle.std.specs.Ordering.{int_eq}
use Rattle.std.proofs.lemmas.Bool.{cases_Bool}
use Rattle.std.proofs.lemmas.Bool.Decides.{Decides-int_eq}
use Rattle.c_token.specs.declared.ctype.CType.{CType}
use Rattle.c_token.specs.declared.ctype.CType.TheVariants as t
use Rattle.c_tree.specs.Tree.{Tree}
use Rattle.c_value.specs.Values.{integer, pattern, number_of, convert}
use Rattle.c_value.specs.Constant as k
use Rattle.c_value.specs.Constant.{ConstantValue, constant_value}
use Rattle.c_meaning.specs.Checks.Lengths.{has_value}
use Rattle.c_meaning.specs.ValueLaws.{IsCongruent}
use Rattle.c_meaning.specs.Statement as cs
use Rattle.c_meaning.proofs.Conversions.{conversions_are_congruent}
use Rattle.c_meaning.specs.CoreRuns.Statements as ks
use Rattle.c_elaborate.specs.Statements.{value_pattern, label_pattern}
use Rattle.c_elaborate.specs.Resolved.{HasValue}

-- ---- patterns

bool_back : (y : Bool) → number_of t.Bool (pattern t.Bool (if y then pos 0 else pos 1)) ≡ (if y then pos 0 else pos 1)
bool_back true = refl
bool_back false = refl

int_back : (signed : Bool) (bits : ℕ) (n : ℤ) → convert (t.Int signed bits) (convert (t.Int signed bits) n) ≡ convert (t.Int signed bits) n
int_back signed bits n =
    let first = conversions_are_congruent signed bits n in
    let m = convert (t.Int signed bits) n in
    let again = conversions_are_congruent signed bits m in
    let same : IsCongruent (integer signed bits) m m = record { before = 0; behind = 0; same = refl } in
    sym (again.only m first.is_of same)

-- the pattern of a number of the type is that of no other one
pub converted_back : (kind : CType) (n : ℤ) → number_of kind (pattern kind (convert kind n)) ≡ convert kind n
converted_back t.Bool n = bool_back (int_eq n (pos 0))
converted_back (t.Int signed bits) n = int_back signed bits n

same_numbers : (x y : ℤ) → x ≡ y → int_eq x y ≡ true
same_numbers x y e = (Decides-int_eq x y).1 e

both_tell : (x y : ℤ) (a b : ℕ) → (x ≡ y → a ≡ b) → (a ≡ b → x ≡ y) → int_eq x y ≡ (a == b)
both_tell x y a b f g = elim (cases_Bool (int_eq x y)) [
  | inl yes_ ↦ yes_ ∙ sym (eq-eqb a b (f ((Decides-int_eq x y).0 yes_)))
  | inr no_ ↦ no_ ∙ sym (ne_eqb a b (λ e. true≢false (sym (same_numbers x y (g e)) ∙ no_)))
]

same_pattern : (kind : CType) (m n : ℤ) → int_eq (convert kind m) (convert kind n) ≡ (pattern kind (convert kind m) == pattern kind (convert kind n))
same_pattern kind m n =
    both_tell (convert kind m) (convert kind n) (pattern kind (convert kind m)) (pattern kind (convert kind n)) (λ e. ap (pattern kind) e)
    (λ e. sym (converted_back kind m) ∙ (ap (number_of kind) e ∙ converted_back kind n))

-- ---- labels

-- the same labels are wanted
abbrev pub Agree : CType → (Option Tree → Bool) → (Option ℕ → Bool) → Type 0
Agree kind wanted wanted' = (v : Option Tree) → HasValue v → wanted v ≡ wanted' (label_pattern kind v)

value_agrees : (kind : CType) (n : ℤ) (v : ConstantValue) → not (has_value v) ≡ false → cs.is_case kind (convert kind n) v ≡ (value_pattern kind v == pattern kind (convert kind n))
value_agrees kind n (k.constant from m) h = same_pattern kind m n
value_agrees kind n (k.undefined_constant rule) h = absurd (true≢false h)
value_agrees kind n k.not_constant h = absurd (true≢false h)

pub label_agrees : (kind : CType) (n : ℤ) → Agree kind (cs.is_label kind (convert kind n)) (ks.is_label (pattern kind (convert kind n)))
label_agrees kind n None h = refl
label_agrees kind n (Some t) h = value_agrees kind n (constant_value t) h

pub default_agrees : (kind : CType) → Agree kind cs.is_default ks.is_default
default_agrees kind None h = refl
default_agrees kind (Some t) h = refl

pub either_agrees : (kind : CType) (y : Bool) (f g : Option Tree → Bool) (f' g' : Option ℕ → Bool) → Agree kind f f' → Agree kind g g' → Agree kind (if y then f else g) (if y then f' else g')
either_agrees kind true f g f' g' a b = a
either_agrees kind false f g f' g' a b = b
