-- What a token is for the grammar.
pub mod Words
use Rattle.std.specs.Prelude.{ℕ, Bool, true, false, List, [], ◌∷◌, codes, Option, Some, None, if◌then◌else◌}
use Rattle.c_token.specs.declared.punct.Punct.{Punct}
use Rattle.c_token.specs.declared.punct.Punct.TheVariants as p
use Rattle.c_token.specs.declared.token.TokenKind.{TokenKind}
use Rattle.c_token.specs.declared.token.TokenKind.TheVariants as k
use Rattle.c_token.specs.Replacement.{find_word, is_in}
use Rattle.c_tree.specs.declared.specifier.Specifier.{Specifier}
use Rattle.c_tree.specs.declared.specifier.Specifier.TheVariants as s
use Rattle.c_tree.specs.Kinds.{specifier_of}
use Rattle.c_tree.specs.Refusal.{unsupported}
use Rattle.c_syntax.specs.declared.sorts.sort.Sort.{Sort}
use Rattle.c_syntax.specs.declared.sorts.sort.Sort.TheVariants as o

-- the keywords that are no words of types
abbrev pub keyword_sorts : List (List ℕ × Sort)
keyword_sorts =
    (codes "const", o.Const) ∷ (codes "static", o.Static) ∷ (codes "inline", o.Inline) ∷ (codes "if", o.If) ∷ (codes "else", o.Else)
    ∷ (codes "switch", o.Switch) ∷ (codes "case", o.Case) ∷ (codes "default", o.Default) ∷ (codes "while", o.While) ∷ (codes "do", o.Do)
    ∷ (codes "for", o.For) ∷ (codes "break", o.Break) ∷ (codes "continue", o.Continue) ∷ (codes "return", o.Return) ∷ []

abbrev pub keyword_of : List ℕ → Option Sort
keyword_of text = find_word text keyword_sorts

abbrev pub specifier_or : Option Specifier → Sort → Sort
specifier_or (Some w) sort = o.Specifier w
specifier_or None sort = sort

abbrev pub keyword_or : Option Sort → Sort → Sort
keyword_or (Some keyword) sort = keyword
keyword_or None sort = sort

abbrev pub sort_of_word : List ℕ → Sort
sort_of_word text = specifier_or (specifier_of text) (keyword_or (keyword_of text) (if is_in text unsupported then o.Unsupported else o.Name))

abbrev pub sort_of_sign : Punct → Sort
sort_of_sign p.LeftParen = o.LeftParen
sort_of_sign p.RightParen = o.RightParen
sort_of_sign p.LeftBracket = o.LeftBracket
sort_of_sign p.RightBracket = o.RightBracket
sort_of_sign p.LeftBrace = o.LeftBrace
sort_of_sign p.RightBrace = o.RightBrace
sort_of_sign p.Semicolon = o.Semicolon
sort_of_sign p.Comma = o.Comma
sort_of_sign p.Colon = o.Colon
sort_of_sign p.Question = o.Question
sort_of_sign p.Tilde = o.Prefix
sort_of_sign p.Bang = o.Prefix
sort_of_sign p.Plus = o.Sign
sort_of_sign p.Minus = o.Sign
sort_of_sign p.Star = o.Operator
sort_of_sign p.Slash = o.Operator
sort_of_sign p.Percent = o.Operator
sort_of_sign p.Amp = o.Operator
sort_of_sign p.Bar = o.Operator
sort_of_sign p.Caret = o.Operator
sort_of_sign p.Less = o.Operator
sort_of_sign p.Greater = o.Operator
sort_of_sign p.ShiftLeft = o.Operator
sort_of_sign p.ShiftRight = o.Operator
sort_of_sign p.LessEqual = o.Operator
sort_of_sign p.GreaterEqual = o.Operator
sort_of_sign p.EqualEqual = o.Operator
sort_of_sign p.BangEqual = o.Operator
sort_of_sign p.AmpAmp = o.Operator
sort_of_sign p.BarBar = o.Operator
sort_of_sign p.PlusPlus = o.Bump
sort_of_sign p.MinusMinus = o.Bump
sort_of_sign p.Equal = o.Equal
sort_of_sign p.PlusEqual = o.Assignment
sort_of_sign p.MinusEqual = o.Assignment
sort_of_sign p.StarEqual = o.Assignment
sort_of_sign p.SlashEqual = o.Assignment
sort_of_sign p.PercentEqual = o.Assignment
sort_of_sign p.AmpEqual = o.Assignment
sort_of_sign p.BarEqual = o.Assignment
sort_of_sign p.CaretEqual = o.Assignment
sort_of_sign p.ShiftLeftEqual = o.Assignment
sort_of_sign p.ShiftRightEqual = o.Assignment
sort_of_sign _ = o.Other

abbrev pub sort_of : TokenKind → Sort
sort_of (k.Word text) = sort_of_word text
sort_of (k.Number value kind) = o.Number
sort_of (k.Punct punct) = sort_of_sign punct
sort_of (k.TypeWord kind) = o.TypeName

-- an operand may begin with it
abbrev pub begins_operand : Sort → Bool
begins_operand o.Name = true
begins_operand o.Number = true
begins_operand o.LeftParen = true
begins_operand o.Prefix = true
begins_operand o.Sign = true
begins_operand o.Bump = true
begins_operand _ = false

-- a type that has values may begin with it
abbrev pub begins_kind : Sort → Bool
begins_kind (o.Specifier s.Void) = false
begins_kind (o.Specifier _) = true
begins_kind o.TypeName = true
begins_kind o.Const = true
begins_kind _ = false

-- the rule of a token that no program has there
abbrev pub rule_of_sort : Sort → ℕ
rule_of_sort o.Unsupported = 20
rule_of_sort o.Equal = 23
rule_of_sort o.Assignment = 23
rule_of_sort o.Bump = 23
rule_of_sort _ = 6
