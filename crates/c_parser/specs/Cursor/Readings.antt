-- What a parser says of the tokens that it takes, and of those of which it takes none. A relation `R tokens a rest` says: the tokens begin with `a`, and `rest` follows it.
use Rattle.std.specs.Prelude.{◌≡◌, ℕ, ◌<◌, Bool, true, false, List, [], ◌∷◌, ◌++◌, Option, Some, None}
use Rattle.std.specs.Option.{option_map}
use Rattle.hls_base.specs.declared.place.Place.{Place}
use Rattle.c_token.specs.declared.punct.Punct.{Punct}
use Rattle.c_token.specs.declared.punct.Punct.TheVariants as p
use Rattle.c_token.specs.declared.token.TokenKind.{TokenKind}
use Rattle.c_token.specs.declared.token.TokenKind.TheVariants as k
use Rattle.c_tree.specs.Terminals.{Terminal, sign, word, operator_of, assignment_of}
use Rattle.c_tree.specs.Grammar.{level_of, primary_level, postfix_level, choice_level, assign_level, comma_level}

-- the tokens that are taken are an `a` of the grammar
pub record Reads {A : Type 0} (P : List Terminal → A → Type 0) (tokens : List Terminal) (a : A) (rest : List Terminal) : Type 0 where
  pub taken : List Terminal
  pub split : tokens ≡ taken ++ rest
  pub derives : P taken a

-- The tokens begin with `a`, and with no other one that is followed as it may be.
pub record Found {A : Type 0} (R : List Terminal → A → List Terminal → Type 0) (E : A → List Terminal → Type 0) (tokens : List Terminal) (a : A) (rest : List Terminal) : Type 0 where
  pub reads : R tokens a rest
  pub only : (others : List Terminal) (b : A) (end : List Terminal) → others ≡ tokens → R others b end → E b end → (end ≡ rest) × (b ≡ a)

-- They begin with none.
pub record Never {A : Type 0} (R : List Terminal → A → List Terminal → Type 0) (E : A → List Terminal → Type 0) (tokens : List Terminal) : Type 0 where
  pub none : (others : List Terminal) (b : A) (end : List Terminal) → others ≡ tokens → R others b end → E b end → ⊥

-- ---- relations

abbrev pub Anywhere : {A : Type 0} → A → List Terminal → Type 0
Anywhere a rest = Unit {0}

abbrev pub Sign : Punct → List Terminal → Place → List Terminal → Type 0
Sign punct tokens at rest = tokens ≡ sign punct at ∷ rest

abbrev pub Word : List ℕ → List Terminal → Place → List Terminal → Type 0
Word text tokens at rest = tokens ≡ word text at ∷ rest

-- an A, and then a B
pub record Sequence {A B C : Type 0} (R : List Terminal → A → List Terminal → Type 0) (S : A → List Terminal → B → List Terminal → Type 0) (f : A → B → C) (tokens : List Terminal) (c : C) (rest : List Terminal) : Type 0 where
  pub first : A
  pub second : B
  pub middle : List Terminal
  pub begins : R tokens first middle
  pub goes_on : S first middle second rest
  pub whole : c ≡ f first second

abbrev pub fst : {A B : Type 0} → A → B → A
fst a b = a

abbrev pub snd : {A B : Type 0} → A → B → B
snd a b = b

-- with the sign behind it
abbrev pub Closed : {A : Type 0} → (List Terminal → A → List Terminal → Type 0) → Punct → List Terminal → A → List Terminal → Type 0
Closed R closer = Sequence R (λ a. Sign closer) fst

-- one or more, with commas between, and the sign behind
pub data Listed {A : Type 0} (R : List Terminal → A → List Terminal → Type 0) (closer : Punct) : List Terminal → List A → List Terminal → Type 0 where
  last : (tokens : List Terminal) (a : A) (at : Place) (rest : List Terminal) → R tokens a (sign closer at ∷ rest) → Listed R closer tokens (a ∷ []) rest
  more : (tokens : List Terminal) (a : A) (at : Place) (middle : List Terminal) (others : List A) (rest : List Terminal) → R tokens a (sign p.Comma at ∷ middle)
      → Listed R closer middle others rest → Listed R closer tokens (a ∷ others) rest

-- any number, one behind the other, until they stop
pub data Repeated {A : Type 0} (R : List Terminal → A → List Terminal → Type 0) (Stops : List Terminal → List Terminal → Type 0) : List Terminal → List A → List Terminal → Type 0 where
  stop : (tokens rest : List Terminal) → Stops tokens rest → Repeated R Stops tokens [] rest
  more : (tokens : List Terminal) (a : A) (middle : List Terminal) (others : List A) (rest : List Terminal) → R tokens a middle → Repeated R Stops middle others rest
      → Repeated R Stops tokens (a ∷ others) rest

-- ---- what follows an expression

abbrev pub or_level : Option ℕ → ℕ → ℕ
or_level None n = n
or_level (Some m) n = m

abbrev pub other_level : Punct → ℕ
other_level p.LeftParen = primary_level
other_level p.LeftBracket = primary_level
other_level p.PlusPlus = postfix_level
other_level p.MinusMinus = postfix_level
other_level p.Question = choice_level
other_level p.Comma = comma_level
other_level _ = 16

-- the tightest level of an expression that goes on with the sign
abbrev pub sign_level : Punct → ℕ
sign_level punct = or_level (option_map level_of (operator_of punct)) (or_level (option_map (λ op. assign_level) (assignment_of punct)) (other_level punct))

abbrev pub joins_kind : TokenKind → ℕ
joins_kind (k.Punct punct) = sign_level punct
joins_kind _ = 16

abbrev pub joins : List Terminal → ℕ
joins [] = 16
joins (t ∷ ts) = joins_kind t.kind

-- an expression of this level does not go on
abbrev pub Ends : {A : Type 0} → ℕ → A → List Terminal → Type 0
Ends n a rest = n < joins rest

-- ---- the next token

abbrev pub Lacks : Punct → List Terminal → Type 0
Lacks punct tokens = (at : Place) (rest : List Terminal) → tokens ≡ sign punct at ∷ rest → ⊥

abbrev pub LacksWord : List ℕ → List Terminal → Type 0
LacksWord text tokens = (at : Place) (rest : List Terminal) → tokens ≡ word text at ∷ rest → ⊥

abbrev pub is_paren : TokenKind → Bool
is_paren (k.Punct p.LeftParen) = true
is_paren _ = false

abbrev pub opens_paren : List Terminal → Bool
opens_paren [] = false
opens_paren (t ∷ ts) = is_paren t.kind
