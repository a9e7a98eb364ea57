-- Which tokens are which type: C11 6.7.2 and 6.7.3.
use Rattle.std.specs.Prelude.{◌≡◌, ℕ, ◌||◌, Bool, true, false, List, [], ◌∷◌, ◌++◌, codes, Option, Some, None, if◌then◌else◌}
use Rattle.hls_base.specs.declared.place.Place.{Place}
use Rattle.c_token.specs.declared.ctype.CType.{CType}
use Rattle.c_token.specs.declared.ctype.CType.TheVariants as t
use Rattle.c_token.specs.declared.token.TokenKind.TheVariants as k
use Rattle.c_token.specs.Constants.{integer}
use Rattle.c_token.specs.Replacement.{find_word}
use Rattle.c_tree.specs.Terminals.{Terminal, terminal, word}
use Rattle.c_tree.specs.declared.specifier.Specifier.{Specifier}
use Rattle.c_tree.specs.declared.specifier.Specifier.TheVariants as s

-- the words of types
abbrev pub specifier_words : List (List ℕ × Specifier)
specifier_words =
    (codes "void", s.Void) ∷ (codes "_Bool", s.Bool) ∷ (codes "char", s.Char) ∷ (codes "short", s.Short) ∷ (codes "int", s.Int)
    ∷ (codes "long", s.Long) ∷ (codes "signed", s.Signed) ∷ (codes "unsigned", s.Unsigned) ∷ []

abbrev pub specifier_of : List ℕ → Option Specifier
specifier_of text = find_word text specifier_words

abbrev pub same_specifier : Specifier → Specifier → Bool
same_specifier s.Void s.Void = true
same_specifier s.Bool s.Bool = true
same_specifier s.Char s.Char = true
same_specifier s.Short s.Short = true
same_specifier s.Int s.Int = true
same_specifier s.Long s.Long = true
same_specifier s.Signed s.Signed = true
same_specifier s.Unsigned s.Unsigned = true
same_specifier _ _ = false

-- the words that are left without the first of these, if it stands there
abbrev pub put_back : Specifier → Option (List Specifier) → Option (List Specifier)
put_back w None = None
put_back w (Some ws) = Some (w ∷ ws)

abbrev pub without_one : Specifier → List Specifier → Option (List Specifier)
without_one w [] = None
without_one w (v ∷ vs) = if same_specifier w v then Some vs else put_back v (without_one w vs)

abbrev pub and_then : Option (List Specifier) → (List Specifier → Bool) → Bool
and_then None f = false
and_then (Some ws) f = f ws

-- The same words, in any order.
abbrev pub same_words : List Specifier → List Specifier → Bool
same_words [] [] = true
same_words [] (v ∷ vs) = false
same_words (w ∷ ws) vs = and_then (without_one w vs) (same_words ws)

-- The lists of words that are a type, C11 6.7.2 paragraph 2. No type is `void`. `char` is signed, and `long long` has the width of `long`.
abbrev pub Row : Type 0
Row = List Specifier × Option CType

abbrev pub rows : List Row
rows =
    (s.Void ∷ [], None)
    ∷ (s.Bool ∷ [], Some t.Bool)
    ∷ (s.Char ∷ [], Some (integer true 8))
    ∷ (s.Signed ∷ s.Char ∷ [], Some (integer true 8))
    ∷ (s.Unsigned ∷ s.Char ∷ [], Some (integer false 8))
    ∷ (s.Short ∷ [], Some (integer true 16))
    ∷ (s.Signed ∷ s.Short ∷ [], Some (integer true 16))
    ∷ (s.Short ∷ s.Int ∷ [], Some (integer true 16))
    ∷ (s.Signed ∷ s.Short ∷ s.Int ∷ [], Some (integer true 16))
    ∷ (s.Unsigned ∷ s.Short ∷ [], Some (integer false 16))
    ∷ (s.Unsigned ∷ s.Short ∷ s.Int ∷ [], Some (integer false 16))
    ∷ (s.Int ∷ [], Some (integer true 32))
    ∷ (s.Signed ∷ [], Some (integer true 32))
    ∷ (s.Signed ∷ s.Int ∷ [], Some (integer true 32))
    ∷ (s.Unsigned ∷ [], Some (integer false 32))
    ∷ (s.Unsigned ∷ s.Int ∷ [], Some (integer false 32))
    ∷ (s.Long ∷ [], Some (integer true 64))
    ∷ (s.Signed ∷ s.Long ∷ [], Some (integer true 64))
    ∷ (s.Long ∷ s.Int ∷ [], Some (integer true 64))
    ∷ (s.Signed ∷ s.Long ∷ s.Int ∷ [], Some (integer true 64))
    ∷ (s.Unsigned ∷ s.Long ∷ [], Some (integer false 64))
    ∷ (s.Unsigned ∷ s.Long ∷ s.Int ∷ [], Some (integer false 64))
    ∷ (s.Long ∷ s.Long ∷ [], Some (integer true 64))
    ∷ (s.Signed ∷ s.Long ∷ s.Long ∷ [], Some (integer true 64))
    ∷ (s.Long ∷ s.Long ∷ s.Int ∷ [], Some (integer true 64))
    ∷ (s.Signed ∷ s.Long ∷ s.Long ∷ s.Int ∷ [], Some (integer true 64))
    ∷ (s.Unsigned ∷ s.Long ∷ s.Long ∷ [], Some (integer false 64))
    ∷ (s.Unsigned ∷ s.Long ∷ s.Long ∷ s.Int ∷ [], Some (integer false 64))
    ∷ []

abbrev pub row_with : List Specifier → List Row → Option (Option CType)
row_with words [] = None
row_with words (row ∷ rows) = if same_words words row.0 then Some row.1 else row_with words rows

-- the type that the words are; `void` has none of a value
abbrev pub type_of_words : List Specifier → Option (Option CType)
type_of_words words = row_with words rows

-- words of types with any number of `const` among them, and whether there is one
pub data DerivesWords : List Terminal → List Specifier → Bool → Type 0 where
  no_word : DerivesWords [] [] false
  a_const : (at : Place) (ts : List Terminal) (words : List Specifier) (constant : Bool) → DerivesWords ts words constant
      → DerivesWords (word (codes "const") at ∷ ts) words true
  a_specifier : (text : List ℕ) (w : Specifier) (at : Place) (ts : List Terminal) (words : List Specifier) (constant : Bool) → specifier_of text ≡ Some w
      → DerivesWords ts words constant → DerivesWords (word text at ∷ ts) (w ∷ words) constant

-- The tokens are the type, C11 6.7.2, 6.7.3, and 7.20.1.1 for the names of `stdint.h`.
pub data DerivesKind : List Terminal → Option CType → Bool → Type 0 where
  of_words : (ts : List Terminal) (words : List Specifier) (kind : Option CType) (constant : Bool) → DerivesWords ts words constant → type_of_words words ≡ Some kind
      → DerivesKind ts kind constant
  of_name : (ls rs : List Terminal) (kind : CType) (at : Place) (before behind : Bool) → DerivesWords ls [] before → DerivesWords rs [] behind
      → DerivesKind (ls ++ terminal (k.TypeWord kind) at ∷ rs) (Some kind) (before || behind)
