-- How far an expression goes, by the sign behind it.
use Rattle.std.proofs.Common.{◌≡◌, ◌∙◌, ℕ, ◌<◌, ◌≤◌, sym, refl, ap, Bool, false, List, ◌∷◌, Option, Some, None, arith}
use Rattle.std.specs.Option.{option_map}
use Rattle.hls_base.specs.declared.place.Place.{Place}
use Rattle.c_token.specs.declared.punct.Punct.{Punct}
use Rattle.c_token.specs.declared.punct.Punct.TheVariants as p
use Rattle.c_token.specs.declared.token.TokenKind.TheVariants as k
use Rattle.c_tree.specs.declared.operator.Unary.{Unary}
use Rattle.c_tree.specs.declared.operator.Binary.{Binary}
use Rattle.c_tree.specs.declared.operator.Binary.TheVariants as b
use Rattle.c_tree.specs.Terminals.{Terminal, sign, prefix_of, operator_of, assignment_of, bump_of}
use Rattle.c_tree.specs.Grammar.{level_of}
use Rattle.c_parser.specs.Cursor.Readings.{or_level, other_level, sign_level, joins, is_paren}
use Rattle.c_parser.specs.Cursor.Tokens.{joiner_of, joiner_or, comma_joiner, joiner_level}
use Rattle.c_parser.specs.declared.cursor.joiner.Joiner.{Joiner}
use Rattle.c_parser.specs.declared.cursor.joiner.Joiner.TheVariants as j

pub level-long : (op : Binary) → 2 < level_of op
level-long b.Mul = omega arith
level-long b.Div = omega arith
level-long b.Rem = omega arith
level-long b.Add = omega arith
level-long b.Sub = omega arith
level-long b.Shl = omega arith
level-long b.Shr = omega arith
level-long b.Lt = omega arith
level-long b.Gt = omega arith
level-long b.Le = omega arith
level-long b.Ge = omega arith
level-long b.Eq = omega arith
level-long b.Ne = omega arith
level-long b.And = omega arith
level-long b.Xor = omega arith
level-long b.Or = omega arith
level-long b.LogAnd = omega arith
level-long b.LogOr = omega arith

pub level-short : (op : Binary) → level_of op < 13
level-short b.Mul = omega arith
level-short b.Div = omega arith
level-short b.Rem = omega arith
level-short b.Add = omega arith
level-short b.Sub = omega arith
level-short b.Shl = omega arith
level-short b.Shr = omega arith
level-short b.Lt = omega arith
level-short b.Gt = omega arith
level-short b.Le = omega arith
level-short b.Ge = omega arith
level-short b.Eq = omega arith
level-short b.Ne = omega arith
level-short b.And = omega arith
level-short b.Xor = omega arith
level-short b.Or = omega arith
level-short b.LogAnd = omega arith
level-short b.LogOr = omega arith

-- ---- the level of a sign

pub operator-level : (punct : Punct) (op : Binary) → operator_of punct ≡ Some op → sign_level punct ≡ level_of op
operator-level punct op e = ap (λ o. or_level (option_map level_of o) (or_level (option_map (λ x. 14) (assignment_of punct)) (other_level punct))) e

pub assignment-level : (punct : Punct) (op : Option Binary) → assignment_of punct ≡ Some op → sign_level punct ≡ 14
assignment-level p.Equal op e = refl
assignment-level p.StarEqual op e = refl
assignment-level p.SlashEqual op e = refl
assignment-level p.PercentEqual op e = refl
assignment-level p.PlusEqual op e = refl
assignment-level p.MinusEqual op e = refl
assignment-level p.ShiftLeftEqual op e = refl
assignment-level p.ShiftRightEqual op e = refl
assignment-level p.AmpEqual op e = refl
assignment-level p.CaretEqual op e = refl
assignment-level p.BarEqual op e = refl
assignment-level _ op e = absurd cc

pub bump-level : (punct : Punct) (up : Bool) → bump_of punct ≡ Some up → sign_level punct ≡ 1
bump-level p.PlusPlus up e = refl
bump-level p.MinusMinus up e = refl
bump-level _ up e = absurd cc

comma-operator : (o : Option Binary) (punct : Punct) → operator_of punct ≡ o → (q : Joiner) → joiner_or o (comma_joiner punct) ≡ Some q → sign_level punct ≡ joiner_level q
comma-operator None p.Comma f q e = let same : q ≡ j.Comma = cc in ap joiner_level (sym same)
comma-operator None _ f q e = absurd cc
comma-operator (Some op) punct f q e = let same : q ≡ j.Binary op = cc in operator-level punct op f ∙ ap joiner_level (sym same)

pub joiner-level : (punct : Punct) (q : Joiner) → joiner_of punct ≡ Some q → sign_level punct ≡ joiner_level q
joiner-level punct q e = comma-operator (operator_of punct) punct refl q e

-- ---- which sign is what

pub prefix_no_bump : (punct : Punct) (op : Unary) (up : Bool) → prefix_of punct ≡ Some op → bump_of punct ≡ Some up → ⊥
prefix_no_bump p.PlusPlus op up e f = cc
prefix_no_bump p.MinusMinus op up e f = cc
prefix_no_bump _ op up e f = cc

pub prefix_no_paren : (punct : Punct) (op : Unary) → prefix_of punct ≡ Some op → is_paren (k.Punct punct) ≡ false
prefix_no_paren p.LeftParen op e = absurd cc
prefix_no_paren _ op e = refl

pub bump_no_paren : (punct : Punct) (up : Bool) → bump_of punct ≡ Some up → is_paren (k.Punct punct) ≡ false
bump_no_paren p.LeftParen up e = absurd cc
bump_no_paren _ up e = refl

-- ---- what ends an expression

pub Ends-tighter : (m n : ℕ) (ts : List Terminal) → m ≤ n → n < joins ts → m < joins ts
Ends-tighter m n ts h e = omega arith

pub ends_at : (n : ℕ) (punct : Punct) (at : Place) (rest : List Terminal) (here : List Terminal) → here ≡ sign punct at ∷ rest → n < sign_level punct → n < joins here
ends_at n punct at rest here e h = omega (arith, ap joins e)

pub ends_level : (n : ℕ) (punct : Punct) (at : Place) (rest : List Terminal) (here : List Terminal) → here ≡ sign punct at ∷ rest → n < joins here → n < sign_level punct
ends_level n punct at rest here e h = omega (arith, ap joins e)
