-- Punctuators differ in spelling, and none begins as a word or a number does.
use Rattle.std.proofs.Common.{◌≡◌, ℕ, ◌<◌, length, lit<, ◌∙◌, sym, refl, ap, false, List, [], ◌∷◌, Option, Some}
use Rattle.std.specs.Prelude.{find, bytes_eq, slice_index}
use Rattle.c_token.specs.Characters.{is_letter, is_digit}
use Rattle.c_token.specs.Spelling.{spelling}
use Rattle.c_token.specs.declared.punct.Punct.{Punct}
use Rattle.c_token.specs.declared.punct.Punct.TheVariants as p

-- the longest first
abbrev pub all_signs : List Punct
all_signs =
    p.Ellipsis ∷ (p.ShiftLeftEqual ∷ (p.ShiftRightEqual ∷ (p.Arrow ∷ (p.PlusPlus ∷ (p.MinusMinus ∷ (p.ShiftLeft ∷ (p.ShiftRight ∷ (p.LessEqual ∷ (p.GreaterEqual ∷ (p.EqualEqual ∷ (p.BangEqual ∷ (p.AmpAmp ∷ (p.BarBar ∷ (p.PlusEqual ∷ (p.MinusEqual ∷ (p.StarEqual ∷ (p.SlashEqual ∷ (p.PercentEqual ∷ (p.AmpEqual ∷ (p.BarEqual ∷ (p.CaretEqual ∷ (p.HashHash ∷ (p.LeftParen ∷ (p.RightParen ∷ (p.LeftBracket ∷ (p.RightBracket ∷ (p.LeftBrace ∷ (p.RightBrace ∷ (p.Semicolon ∷ (p.Comma ∷ (p.Colon ∷ (p.Question ∷ (p.Tilde ∷ (p.Bang ∷ (p.Plus ∷ (p.Minus ∷ (p.Star ∷ (p.Slash ∷ (p.Percent ∷ (p.Amp ∷ (p.Bar ∷ (p.Caret ∷ (p.Less ∷ (p.Greater ∷ (p.Equal ∷ (p.Dot ∷ (p.Hash ∷ [])))))))))))))))))))))))))))))))))))))))))))))))

-- the punctuator of this spelling
abbrev pub sign_of : List ℕ → Option Punct
sign_of text = find (λ q. bytes_eq (spelling q) text) all_signs

pub sign_of-spelling : (q : Punct) → sign_of (spelling q) ≡ Some q
unfolding spelling
sign_of-spelling p.LeftParen = refl
sign_of-spelling p.RightParen = refl
sign_of-spelling p.LeftBracket = refl
sign_of-spelling p.RightBracket = refl
sign_of-spelling p.LeftBrace = refl
sign_of-spelling p.RightBrace = refl
sign_of-spelling p.Semicolon = refl
sign_of-spelling p.Comma = refl
sign_of-spelling p.Colon = refl
sign_of-spelling p.Question = refl
sign_of-spelling p.Tilde = refl
sign_of-spelling p.Bang = refl
sign_of-spelling p.Plus = refl
sign_of-spelling p.Minus = refl
sign_of-spelling p.Star = refl
sign_of-spelling p.Slash = refl
sign_of-spelling p.Percent = refl
sign_of-spelling p.Amp = refl
sign_of-spelling p.Bar = refl
sign_of-spelling p.Caret = refl
sign_of-spelling p.Less = refl
sign_of-spelling p.Greater = refl
sign_of-spelling p.Equal = refl
sign_of-spelling p.Dot = refl
sign_of-spelling p.Ellipsis = refl
sign_of-spelling p.Arrow = refl
sign_of-spelling p.PlusPlus = refl
sign_of-spelling p.MinusMinus = refl
sign_of-spelling p.ShiftLeft = refl
sign_of-spelling p.ShiftRight = refl
sign_of-spelling p.LessEqual = refl
sign_of-spelling p.GreaterEqual = refl
sign_of-spelling p.EqualEqual = refl
sign_of-spelling p.BangEqual = refl
sign_of-spelling p.AmpAmp = refl
sign_of-spelling p.BarBar = refl
sign_of-spelling p.PlusEqual = refl
sign_of-spelling p.MinusEqual = refl
sign_of-spelling p.StarEqual = refl
sign_of-spelling p.SlashEqual = refl
sign_of-spelling p.PercentEqual = refl
sign_of-spelling p.AmpEqual = refl
sign_of-spelling p.BarEqual = refl
sign_of-spelling p.CaretEqual = refl
sign_of-spelling p.ShiftLeftEqual = refl
sign_of-spelling p.ShiftRightEqual = refl
sign_of-spelling p.HashHash = refl
sign_of-spelling p.Hash = refl

pub sign_no_letter : (q : Punct) → is_letter (slice_index (spelling q) 0) ≡ false
unfolding spelling is_letter
sign_no_letter p.LeftParen = refl
sign_no_letter p.RightParen = refl
sign_no_letter p.LeftBracket = refl
sign_no_letter p.RightBracket = refl
sign_no_letter p.LeftBrace = refl
sign_no_letter p.RightBrace = refl
sign_no_letter p.Semicolon = refl
sign_no_letter p.Comma = refl
sign_no_letter p.Colon = refl
sign_no_letter p.Question = refl
sign_no_letter p.Tilde = refl
sign_no_letter p.Bang = refl
sign_no_letter p.Plus = refl
sign_no_letter p.Minus = refl
sign_no_letter p.Star = refl
sign_no_letter p.Slash = refl
sign_no_letter p.Percent = refl
sign_no_letter p.Amp = refl
sign_no_letter p.Bar = refl
sign_no_letter p.Caret = refl
sign_no_letter p.Less = refl
sign_no_letter p.Greater = refl
sign_no_letter p.Equal = refl
sign_no_letter p.Dot = refl
sign_no_letter p.Ellipsis = refl
sign_no_letter p.Arrow = refl
sign_no_letter p.PlusPlus = refl
sign_no_letter p.MinusMinus = refl
sign_no_letter p.ShiftLeft = refl
sign_no_letter p.ShiftRight = refl
sign_no_letter p.LessEqual = refl
sign_no_letter p.GreaterEqual = refl
sign_no_letter p.EqualEqual = refl
sign_no_letter p.BangEqual = refl
sign_no_letter p.AmpAmp = refl
sign_no_letter p.BarBar = refl
sign_no_letter p.PlusEqual = refl
sign_no_letter p.MinusEqual = refl
sign_no_letter p.StarEqual = refl
sign_no_letter p.SlashEqual = refl
sign_no_letter p.PercentEqual = refl
sign_no_letter p.AmpEqual = refl
sign_no_letter p.BarEqual = refl
sign_no_letter p.CaretEqual = refl
sign_no_letter p.ShiftLeftEqual = refl
sign_no_letter p.ShiftRightEqual = refl
sign_no_letter p.HashHash = refl
sign_no_letter p.Hash = refl

pub sign_no_digit : (q : Punct) → is_digit (slice_index (spelling q) 0) ≡ false
unfolding spelling is_digit
sign_no_digit p.LeftParen = refl
sign_no_digit p.RightParen = refl
sign_no_digit p.LeftBracket = refl
sign_no_digit p.RightBracket = refl
sign_no_digit p.LeftBrace = refl
sign_no_digit p.RightBrace = refl
sign_no_digit p.Semicolon = refl
sign_no_digit p.Comma = refl
sign_no_digit p.Colon = refl
sign_no_digit p.Question = refl
sign_no_digit p.Tilde = refl
sign_no_digit p.Bang = refl
sign_no_digit p.Plus = refl
sign_no_digit p.Minus = refl
sign_no_digit p.Star = refl
sign_no_digit p.Slash = refl
sign_no_digit p.Percent = refl
sign_no_digit p.Amp = refl
sign_no_digit p.Bar = refl
sign_no_digit p.Caret = refl
sign_no_digit p.Less = refl
sign_no_digit p.Greater = refl
sign_no_digit p.Equal = refl
sign_no_digit p.Dot = refl
sign_no_digit p.Ellipsis = refl
sign_no_digit p.Arrow = refl
sign_no_digit p.PlusPlus = refl
sign_no_digit p.MinusMinus = refl
sign_no_digit p.ShiftLeft = refl
sign_no_digit p.ShiftRight = refl
sign_no_digit p.LessEqual = refl
sign_no_digit p.GreaterEqual = refl
sign_no_digit p.EqualEqual = refl
sign_no_digit p.BangEqual = refl
sign_no_digit p.AmpAmp = refl
sign_no_digit p.BarBar = refl
sign_no_digit p.PlusEqual = refl
sign_no_digit p.MinusEqual = refl
sign_no_digit p.StarEqual = refl
sign_no_digit p.SlashEqual = refl
sign_no_digit p.PercentEqual = refl
sign_no_digit p.AmpEqual = refl
sign_no_digit p.BarEqual = refl
sign_no_digit p.CaretEqual = refl
sign_no_digit p.ShiftLeftEqual = refl
sign_no_digit p.ShiftRightEqual = refl
sign_no_digit p.HashHash = refl
sign_no_digit p.Hash = refl

pub spelling_unique : (q r : Punct) → spelling q ≡ spelling r → q ≡ r
spelling_unique q r e = let s : Some q ≡ Some r = sym (sign_of-spelling q) ∙ (ap sign_of e ∙ sign_of-spelling r) in cc

pub spelling-long : (q : Punct) → 0 < length (spelling q)
unfolding spelling
spelling-long p.LeftParen = lit< tt
spelling-long p.RightParen = lit< tt
spelling-long p.LeftBracket = lit< tt
spelling-long p.RightBracket = lit< tt
spelling-long p.LeftBrace = lit< tt
spelling-long p.RightBrace = lit< tt
spelling-long p.Semicolon = lit< tt
spelling-long p.Comma = lit< tt
spelling-long p.Colon = lit< tt
spelling-long p.Question = lit< tt
spelling-long p.Tilde = lit< tt
spelling-long p.Bang = lit< tt
spelling-long p.Plus = lit< tt
spelling-long p.Minus = lit< tt
spelling-long p.Star = lit< tt
spelling-long p.Slash = lit< tt
spelling-long p.Percent = lit< tt
spelling-long p.Amp = lit< tt
spelling-long p.Bar = lit< tt
spelling-long p.Caret = lit< tt
spelling-long p.Less = lit< tt
spelling-long p.Greater = lit< tt
spelling-long p.Equal = lit< tt
spelling-long p.Dot = lit< tt
spelling-long p.Ellipsis = lit< tt
spelling-long p.Arrow = lit< tt
spelling-long p.PlusPlus = lit< tt
spelling-long p.MinusMinus = lit< tt
spelling-long p.ShiftLeft = lit< tt
spelling-long p.ShiftRight = lit< tt
spelling-long p.LessEqual = lit< tt
spelling-long p.GreaterEqual = lit< tt
spelling-long p.EqualEqual = lit< tt
spelling-long p.BangEqual = lit< tt
spelling-long p.AmpAmp = lit< tt
spelling-long p.BarBar = lit< tt
spelling-long p.PlusEqual = lit< tt
spelling-long p.MinusEqual = lit< tt
spelling-long p.StarEqual = lit< tt
spelling-long p.SlashEqual = lit< tt
spelling-long p.PercentEqual = lit< tt
spelling-long p.AmpEqual = lit< tt
spelling-long p.BarEqual = lit< tt
spelling-long p.CaretEqual = lit< tt
spelling-long p.ShiftLeftEqual = lit< tt
spelling-long p.ShiftRightEqual = lit< tt
spelling-long p.HashHash = lit< tt
spelling-long p.Hash = lit< tt
