-- The row of tokens and white space that a tree is printed as.
use Rattle.std.specs.Prelude.{ℕ, ◌-◌, nat_le, ◌==◌, Bool, true, false, List, [], ◌∷◌, ◌++◌, codes, Option, Some, if◌then◌else◌}
use Rattle.c_token.specs.declared.ctype.CType.{CType}
use Rattle.c_token.specs.declared.ctype.CType.TheVariants as t
use Rattle.c_token.specs.declared.punct.Punct.{Punct}
use Rattle.c_token.specs.declared.punct.Punct.TheVariants as p
use Rattle.c_token.specs.declared.token.TokenKind.TheVariants as k
use Rattle.c_tree.specs.declared.operator.Unary.{Unary}
use Rattle.c_tree.specs.declared.operator.Unary.TheVariants as u
use Rattle.c_tree.specs.declared.operator.Binary.{Binary}
use Rattle.c_tree.specs.declared.operator.Binary.TheVariants as b
use Rattle.c_tree.specs.declared.print.row.Written.{Written}
use Rattle.c_tree.specs.declared.print.row.Written.TheVariants as w
use Rattle.c_tree.specs.Grammar.{primary_level, postfix_level, unary_level, level_of, binary_level, choice_level, assign_level, comma_level}
use Rattle.c_tree.specs.Tree as tree
use Rattle.c_tree.specs.Tree.{Tree, TargetTree, Trees}

abbrev pub Row : Type 0
Row = List Written

abbrev pub sign : Punct → Written
sign punct = w.Token (k.Punct punct)

abbrev pub word : List ℕ → Written
word text = w.Token (k.Word text)

-- ---- operators

abbrev pub prefix_sign : Unary → Punct
prefix_sign u.Plus = p.Plus
prefix_sign u.Minus = p.Minus
prefix_sign u.Not = p.Tilde
prefix_sign u.LogNot = p.Bang

abbrev pub operator_sign : Binary → Punct
operator_sign b.Mul = p.Star
operator_sign b.Div = p.Slash
operator_sign b.Rem = p.Percent
operator_sign b.Add = p.Plus
operator_sign b.Sub = p.Minus
operator_sign b.Shl = p.ShiftLeft
operator_sign b.Shr = p.ShiftRight
operator_sign b.Lt = p.Less
operator_sign b.Gt = p.Greater
operator_sign b.Le = p.LessEqual
operator_sign b.Ge = p.GreaterEqual
operator_sign b.Eq = p.EqualEqual
operator_sign b.Ne = p.BangEqual
operator_sign b.And = p.Amp
operator_sign b.Xor = p.Caret
operator_sign b.Or = p.Bar
operator_sign b.LogAnd = p.AmpAmp
operator_sign b.LogOr = p.BarBar

-- An operator that has no assignment stands in no assignment of a program.
abbrev pub assignment_sign : Option Binary → Punct
assignment_sign (Some b.Mul) = p.StarEqual
assignment_sign (Some b.Div) = p.SlashEqual
assignment_sign (Some b.Rem) = p.PercentEqual
assignment_sign (Some b.Add) = p.PlusEqual
assignment_sign (Some b.Sub) = p.MinusEqual
assignment_sign (Some b.Shl) = p.ShiftLeftEqual
assignment_sign (Some b.Shr) = p.ShiftRightEqual
assignment_sign (Some b.And) = p.AmpEqual
assignment_sign (Some b.Xor) = p.CaretEqual
assignment_sign (Some b.Or) = p.BarEqual
assignment_sign _ = p.Equal

abbrev pub bump_sign : Bool → Punct
bump_sign true = p.PlusPlus
bump_sign false = p.MinusMinus

-- ---- types

-- One way to write each type in words, C11 6.7.2. `char` says its sign, as it has another one in other compilers.
abbrev pub width_word : ℕ → List ℕ
width_word bits = if bits == 8 then codes "char" else (if bits == 16 then codes "short" else (if bits == 32 then codes "int" else codes "long"))

abbrev pub type_words : CType → List (List ℕ)
type_words t.Bool = codes "_Bool" ∷ []
type_words (t.Int true bits) = if bits == 8 then codes "signed" ∷ codes "char" ∷ [] else (width_word bits ∷ [])
type_words (t.Int false bits) = codes "unsigned" ∷ width_word bits ∷ []

abbrev pub words_row : List (List ℕ) → Row
words_row [] = []
words_row (text ∷ []) = word text ∷ []
words_row (text ∷ texts) = word text ∷ w.Space ∷ words_row texts

abbrev pub const_row : Bool → Row
const_row true = word (codes "const") ∷ w.Space ∷ []
const_row false = []

abbrev pub kind_row : Bool → CType → Row
kind_row constant kind = const_row constant ++ words_row (type_words kind)

-- ---- expressions

-- how tightly the expression holds together without parentheses around it
abbrev pub own_level : Tree → ℕ
own_level (tree.number _ _ _) = primary_level
own_level (tree.name _ _) = primary_level
own_level (tree.index _ _ _) = primary_level
own_level (tree.call _ _ _) = primary_level
own_level (tree.unary _ _ _) = unary_level
own_level (tree.binary op _ _ _) = level_of op
own_level (tree.choice _ _ _ _ _) = choice_level
own_level (tree.cast _ _ _) = unary_level
own_level (tree.assign _ _ _ _) = assign_level
own_level (tree.bump _ _ true _) = postfix_level
own_level (tree.bump _ _ false _) = unary_level
own_level (tree.comma _ _ _) = comma_level

abbrev pub grouped : Bool → Row → Row
grouped true row = row
grouped false row = sign p.LeftParen ∷ (row ++ sign p.RightParen ∷ [])

-- the row where an expression of this level may stand
abbrev pub within : ℕ → Tree → Row → Row
within level e row = grouped (nat_le (own_level e) level) row

abbrev pub infix_row : Punct → Row
infix_row punct = w.Space ∷ sign punct ∷ w.Space ∷ []

abbrev pub comma_row : Row
comma_row = sign p.Comma ∷ w.Space ∷ []

abbrev mutual
  -- without parentheses around it
  pub own_row : Tree → Row
  own_row (tree.number value kind at) = w.Token (k.Number value kind) ∷ []
  own_row (tree.name text at) = word text ∷ []
  own_row (tree.index array subscripts at) = word array ∷ subscripts_row subscripts
  own_row (tree.call callee args at) = word callee ∷ sign p.LeftParen ∷ (list_row args ++ sign p.RightParen ∷ [])
  own_row (tree.unary op arg at) = sign (prefix_sign op) ∷ within unary_level arg (own_row arg)
  own_row (tree.binary op left right at) =
      within (level_of op) left (own_row left) ++ (infix_row (operator_sign op) ++ within (level_of op - 1) right (own_row right))
  own_row (tree.choice test left right at colon) =
      within binary_level test (own_row test)
      ++ (infix_row p.Question ++ (within comma_level left (own_row left) ++ (infix_row p.Colon ++ within choice_level right (own_row right))))
  own_row (tree.cast to arg at) = sign p.LeftParen ∷ (kind_row false to ++ sign p.RightParen ∷ within unary_level arg (own_row arg))
  own_row (tree.assign changed op value at) =
      target_row changed ++ (infix_row (assignment_sign op) ++ within assign_level value (own_row value))
  own_row (tree.bump changed up true at) = target_row changed ++ sign (bump_sign up) ∷ []
  own_row (tree.bump changed up false at) = sign (bump_sign up) ∷ target_row changed
  own_row (tree.comma left right at) = within comma_level left (own_row left) ++ (comma_row ++ within assign_level right (own_row right))

  pub target_row : TargetTree → Row
  target_row (tree.target text subscripts at) = word text ∷ subscripts_row subscripts

  pub subscripts_row : Trees → Row
  subscripts_row tree.none = []
  subscripts_row (tree.more first rest) =
      sign p.LeftBracket ∷ (within comma_level first (own_row first) ++ sign p.RightBracket ∷ subscripts_row rest)

  -- with commas between
  pub list_row : Trees → Row
  list_row tree.none = []
  list_row (tree.more first rest) = within assign_level first (own_row first) ++ list_behind rest

  -- with a comma before each
  pub list_behind : Trees → Row
  list_behind tree.none = []
  list_behind (tree.more first rest) = comma_row ++ (within assign_level first (own_row first) ++ list_behind rest)

abbrev pub expression_row : ℕ → Tree → Row
expression_row level e = within level e (own_row e)
