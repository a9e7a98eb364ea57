-- Numbers of C, and the words that hold them: an operator on numbers gives what its operation gives on words.
use Rattle.std.specs.Prelude.{◌≡◌, ℕ, true, false, ℤ, pos, neg_ℤ, int_lt, int_le, List, [], ◌∷◌, nat_lt, nat_eq, if◌then◌else◌}
use Rattle.std.specs.Ordering.{int_eq}
use Rattle.c_token.specs.declared.ctype.CType.{CType}
use Rattle.c_token.specs.declared.ctype.CType.TheVariants as type
use Rattle.c_tree.specs.declared.operator.Binary.{Binary}
use Rattle.c_tree.specs.declared.operator.Binary.TheVariants as b
use Rattle.c_value.specs.Values.{IsOf, bits_of, integer, width, is_signed, pattern, number_of, convert, promoted}
use Rattle.c_value.specs.Operators as c
use Rattle.ir_core.specs.declared.body.OpKind.{OpKind}
use Rattle.ir_core.specs.declared.body.OpKind.TheVariants as o
use Rattle.ir_core.specs.Value as op
use Rattle.passes.specs.Lowering.Expressions.{is_total, operation}

-- a type of C: _Bool, or an integer of 8, 16, 32 or 64 bits
abbrev pub IsType : CType → Type 0
IsType type.Bool = Unit {0}
IsType (type.Int signed bits) = bits_of bits ≡ bits

-- a number of the type, and its bits
pub record IsWord (k : CType) (v : ℤ) (w : ℕ) : Type 0 where
  pub number : IsOf k v
  pub word : w ≡ pattern k v

-- ---- conversions

-- what a conversion between types of different widths gives
abbrev pub conversion_word : CType → CType → ℕ → ℕ
conversion_word from type.Bool w = op.value o.Truth false (width from) (width from) (w ∷ [])
conversion_word from (type.Int signed bits) w =
    if nat_lt (width from) (width (type.Int signed bits)) then op.value o.Widen (is_signed from) (width (type.Int signed bits)) (width from) (w ∷ [])
    else op.value o.Narrow false (width (type.Int signed bits)) (width from) (w ∷ [])

abbrev pub resized_word : CType → CType → ℕ → ℕ
resized_word from to w = if nat_eq (width from) (width to) then w else conversion_word from to w

pub record ConversionsAgree : Type 0 where
  pub resized : (from to : CType) (v : ℤ) (w : ℕ) → IsWord from v w → IsWord to (convert to v) (resized_word from to w)
  pub number : (k : CType) (v : ℤ) → IsOf k (convert k v)
  pub back : (k : CType) (v : ℤ) (w : ℕ) → IsWord k v w → number_of k w ≡ v
  pub promotion : (k : CType) → IsType k → (v : ℤ) → IsOf k v → convert (promoted k) v ≡ v
  pub zero : (k : CType) (v : ℤ) (w : ℕ) → IsWord k v w → nat_eq w 0 ≡ int_eq v (pos 0)

-- ---- operators

-- The operation has the number's word; and where C may give it none, it is defined.
abbrev pub Agrees : OpKind → CType → ℤ → List ℕ → Type 0
Agrees kind k v args =
    (is_total kind (is_signed k) ≡ true → IsWord k v (op.value kind false (width k) 0 args))
    × (is_total kind (is_signed k) ≡ false → IsWord k v (op.value kind (is_signed k) (width k) 0 args) × (op.is_defined kind (is_signed k) (width k) args ≡ true))

abbrev pub IsArithmetic : Binary → Type 0
IsArithmetic b.Mul = Unit {0}
IsArithmetic b.Div = Unit {0}
IsArithmetic b.Rem = Unit {0}
IsArithmetic b.Add = Unit {0}
IsArithmetic b.Sub = Unit {0}
IsArithmetic b.And = Unit {0}
IsArithmetic b.Xor = Unit {0}
IsArithmetic b.Or = Unit {0}
IsArithmetic op = ⊥

abbrev pub IsShift : Binary → Type 0
IsShift b.Shl = Unit {0}
IsShift b.Shr = Unit {0}
IsShift op = ⊥

-- the type of a shift's count: as wide as what is shifted
abbrev pub count_type : CType → CType → CType
count_type k right = integer (is_signed right) (width k)

pub record OperatorsAgree : Type 0 where
  pub arithmetic : (f : Binary) → IsArithmetic f → (k : CType) (x y v : ℤ) (wx wy : ℕ) → IsWord k x wx → IsWord k y wy → c.balanced f k x y ≡ c.defined v → Agrees (operation f) k v (wx ∷ wy ∷ [])
  pub shift : (f : Binary) → IsShift f → (k right : CType) (x y v : ℤ) (wx wy : ℕ) → IsOf right y → IsWord k x wx → IsWord (count_type k right) (convert (count_type k right) y) wy → c.balanced f k x y ≡ c.defined v
      → Agrees (operation f) k v (wx ∷ wy ∷ [])
  pub less : (k : CType) (x y : ℤ) (wx wy : ℕ) → IsWord k x wx → IsWord k y wy → op.value o.Lt (is_signed k) (width k) 0 (wx ∷ wy ∷ []) ≡ op.truth (int_lt x y)
  pub at_most : (k : CType) (x y : ℤ) (wx wy : ℕ) → IsWord k x wx → IsWord k y wy → op.value o.Le (is_signed k) (width k) 0 (wx ∷ wy ∷ []) ≡ op.truth (int_le x y)
  pub equal : (k : CType) (x y : ℤ) (wx wy : ℕ) → IsWord k x wx → IsWord k y wy → nat_eq wx wy ≡ int_eq x y
  pub negation : (k : CType) (x v : ℤ) (w : ℕ) → IsWord k x w → c.in_range k (neg_ℤ x) ≡ c.defined v → Agrees o.Neg k v (w ∷ [])
  pub complement : (k : CType) (x : ℤ) (w : ℕ) → IsWord k x w → IsWord k (c.complement k x) (op.value o.Not false (width k) 0 (w ∷ []))
  pub kept : (k : CType) (v : ℤ) (w : ℕ) → IsWord k v w → op.pattern (width k) (pos w) ≡ w

-- a number that is not negative is its own word
abbrev pub NaturalsAreWords : Type 0
NaturalsAreWords = (k : CType) (n w : ℕ) → IsWord k (pos n) w → w ≡ n
