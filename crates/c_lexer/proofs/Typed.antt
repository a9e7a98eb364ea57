-- A number of more than 64 bits is no constant.
use Rattle.std.proofs.Common.{◌≡◌, ℕ, ◌-◌, ◌^◌, ◌<◌, ◌≤◌, ◌∙◌, sym, refl, ap, subst, Bool, true, false, cond, List, [], ◌∷◌, length, take, drop, get_or, Some, arith, inl, inr}
use Rattle.std.specs.Prelude.{find, nat_le, nat_lt, ◌&&◌}
use Rattle.std.specs.List.{prefix_len}
use Rattle.std.specs.Char.{digit_value}
use Rattle.std.specs.Str.Parse.{digits_value}
use Rattle.std.proofs.Math.Pow.{pow_mono}
use Rattle.std.proofs.lemmas.Bool.{cases_Bool, and_parts, leb-true, ltb-true}
use Rattle.std.proofs.lemmas.List.{get_or-take, length-take}
use Rattle.std.proofs.lemmas.List.Sums.{prefix_len_passes, prefix_len-le-length}
use Rattle.c_token.specs.declared.ctype.CType.{CType}
use Rattle.c_token.specs.declared.ctype.CType.TheVariants as t
use Rattle.c_token.specs.Constants.{Suffix, plain, unsigned, long, unsigned_long, types, type_of, holds, radix_of, mark_length, digits_of, IsConstant}

abbrev has_64 : CType → Bool
has_64 t.Bool = true
has_64 (t.Int signed bits) = nat_le bits 64

abbrev all_64 : List CType → Bool
all_64 [] = true
all_64 (k ∷ ks) = has_64 k && all_64 ks

types_64 : (s : Suffix) (d : Bool) → all_64 (types s d) ≡ true
unfolding types
types_64 plain true = refl
types_64 plain false = refl
types_64 unsigned d = refl
types_64 long true = refl
types_64 long false = refl
types_64 unsigned_long d = refl

in_power : (v n : ℕ) → v < 2 ^ n → n ≤ 64 → v < 2 ^ 64
in_power v n small up = let p : 2 ^ n ≤ 2 ^ 64 = pow_mono up in omega arith

held : (v : ℕ) (k : CType) → has_64 k ≡ true → holds v k ≡ true → v < 2 ^ 64
held v t.Bool w h = omega (arith, ltb-true v 2 h)
held v (t.Int true bits) w h = in_power v (bits - 1) (ltb-true _ _ h) (omega (arith, leb-true bits 64 w))
held v (t.Int false bits) w h = in_power v bits (ltb-true _ _ h) (leb-true bits 64 w)

found_64 : (v : ℕ) (ks : List CType) (k : CType) → all_64 ks ≡ true → find (holds v) ks ≡ Some k → v < 2 ^ 64
found_64 v [] k a e = absurd cc
found_64 v (x ∷ ks) k a e =
    let parts = and_parts (has_64 x) (all_64 ks) a in
    elim (cases_Bool (holds v x)) [
      | inl t ↦ held v x parts.0 t
      | inr f ↦ found_64 v ks k parts.1 (sym (ap (λ b. cond b (Some x) (find (holds v) ks)) f) ∙ e)
    ]

typed-small : (v : ℕ) (s : Suffix) (d : Bool) (k : CType) → type_of v s d ≡ Some k → v < 2 ^ 64
unfolding type_of
typed-small v s d k e = found_64 v (types s d) k (types_64 s d) e

-- the longest row of digits of a base
abbrev row : ℕ → List ℕ → List ℕ
row r body = take (prefix_len (λ b. nat_lt (digit_value b) r) body) body

pub digits_pass : (r n : ℕ) (body front : List ℕ) → n ≡ prefix_len (λ b. nat_lt (digit_value b) r) body → front ≡ take n body → (i : ℕ) → i < length front → digit_value (get_or front i 0) < r
digits_pass r n body front count is i below =
    let within : i < n = omega (arith, ap length is, length-take n body) in
    let same : get_or front i 0 ≡ get_or body i 0 = ap (λ x. get_or x i 0) is ∙ get_or-take n body i 0 within in
    let passes : digit_value (get_or body i 0) < r =
    ltb-true _ _ (prefix_len_passes (λ b. nat_lt (digit_value b) r) body i 0 (omega arith)) in
    subst (λ x. digit_value x < r) (sym same) passes

pub no_constant : (text body front : List ℕ) (r n : ℕ) → r ≡ radix_of text → body ≡ drop (mark_length text) text → n ≡ prefix_len (λ b. nat_lt (digit_value b) r) body → front ≡ take n body → (digits_value r front < 2 ^ 64 → ⊥) → (v : ℕ) (k : CType) → IsConstant text v k → ⊥
no_constant text body front r n base begin count is large v k constant =
    let digits : front ≡ digits_of text =
    is ∙ (ap (λ x. take x body) count ∙ (ap (λ x. row x body) base ∙ ap (λ x. row (radix_of text) x) begin)) in
    let value : digits_value r front ≡ v =
    ap (λ x. digits_value x front) base ∙ (ap (digits_value (radix_of text)) digits ∙ sym constant.is_value) in
    large (subst (λ x. x < 2 ^ 64) (sym value) (typed-small v constant.suffix _ k constant.is_type))

pub digit_count-fits : (r n : ℕ) (body : List ℕ) → n ≡ prefix_len (λ b. nat_lt (digit_value b) r) body → n ≤ length body
digit_count-fits r n body count = omega (arith, prefix_len-le-length (λ b. nat_lt (digit_value b) r) body)
