-- The words of a type, as the parser reads them.
use Rattle.std.specs.Prelude.{◌≡◌, ℕ, Bool, true, false, ◌&&◌, List, [], ◌∷◌, codes, bytes_eq, Option, Some, None, is_some, if◌then◌else◌}
use Rattle.std.specs.Borrow.{Bor}
use Rattle.c_token.specs.declared.ctype.CType.{CType}
use Rattle.c_token.specs.declared.token.TokenKind.{TokenKind}
use Rattle.c_token.specs.declared.token.TokenKind.TheVariants as k
use Rattle.c_tree.specs.declared.specifier.Specifier.{Specifier}
use Rattle.c_tree.specs.Terminals.{Terminal}
use Rattle.c_tree.specs.Kinds.{Row, specifier_of, type_of_words, DerivesKind}
use Rattle.c_parser.specs.Cursor.Readings.{Reads, Repeated, is_paren}
use Rattle.c_parser.specs.declared.cursor.types.Kind.{Kind}
use Rattle.c_parser.specs.declared.cursor.types.ValueKind.{ValueKind}
use Rattle.c_parser.specs.declared.cursor.types.KindWord.{KindWord}
use Rattle.c_parser.specs.declared.cursor.types.KindWord.TheVariants as w

-- a row of a table of words
abbrev pub named_specifier : Bor (List ℕ) × Specifier → List ℕ × Specifier
named_specifier row = (row.0.now, row.1)

abbrev pub plain_row : Bor (List Specifier) × Option CType → Row
plain_row row = (row.0.now, row.1)

abbrev pub specifier_word : Option Specifier → Option KindWord
specifier_word None = None
specifier_word (Some s) = Some (w.Specifier s)

abbrev pub kind_word_of_text : List ℕ → Option KindWord
kind_word_of_text text = if bytes_eq text (codes "const") then Some w.Const else specifier_word (specifier_of text)

-- a token that belongs to a type
abbrev pub kind_word_of : TokenKind → Option KindWord
kind_word_of (k.Word text) = kind_word_of_text text
kind_word_of (k.TypeWord kind) = Some (w.Name kind)
kind_word_of _ = None

abbrev pub starts_kind : List Terminal → Bool
starts_kind [] = false
starts_kind (t ∷ ts) = is_some (kind_word_of t.kind)

abbrev pub KindEnds : {A : Type 0} → A → List Terminal → Type 0
KindEnds kind rest = starts_kind rest ≡ false

-- the next token is this word of a type
abbrev pub KindSign : List Terminal → KindWord → List Terminal → Type 0
KindSign tokens word rest = (t : Terminal) × (tokens ≡ t ∷ rest) × (kind_word_of t.kind ≡ Some word)

abbrev pub NoKindWord : List Terminal → List Terminal → Type 0
NoKindWord tokens rest = (rest ≡ tokens) × (starts_kind tokens ≡ false)

-- all the words of types that come next
abbrev pub KindWords : List Terminal → List KindWord → List Terminal → Type 0
KindWords = Repeated KindSign NoKindWord

abbrev pub specifiers : List KindWord → List Specifier
specifiers [] = []
specifiers (w.Specifier s ∷ words) = s ∷ specifiers words
specifiers (w.Const ∷ words) = specifiers words
specifiers (w.Name kind ∷ words) = specifiers words

abbrev pub names : List KindWord → List CType
names [] = []
names (w.Specifier s ∷ words) = names words
names (w.Const ∷ words) = names words
names (w.Name kind ∷ words) = kind ∷ names words

abbrev pub has_const : List KindWord → Bool
has_const [] = false
has_const (w.Specifier s ∷ words) = has_const words
has_const (w.Const ∷ words) = true
has_const (w.Name kind ∷ words) = has_const words

-- the type, from its names and its other words
abbrev pub type_among : List CType → List Specifier → Option (Option CType)
type_among [] words = type_of_words words
type_among (kind ∷ []) [] = Some (Some kind)
type_among _ _ = None

abbrev pub DerivesSomeKind : List Terminal → Kind → Type 0
DerivesSomeKind ts kind = DerivesKind ts kind.kind kind.constant

-- a type, or `void`
abbrev pub SomeKind : List Terminal → Kind → List Terminal → Type 0
SomeKind = Reads DerivesSomeKind

abbrev pub DerivesValueKind : List Terminal → ValueKind → Type 0
DerivesValueKind ts kind = DerivesKind ts (Some kind.kind) kind.constant

-- a type that has values
abbrev pub AValueKind : List Terminal → ValueKind → List Terminal → Type 0
AValueKind = Reads DerivesValueKind

abbrev pub opens_cast : List Terminal → Bool
opens_cast [] = false
opens_cast (t ∷ ts) = is_paren t.kind && starts_kind ts
