-- The signs of a module's text, and the reserved words, by the bytes that they begin with.
use Rattle.std.specs.Prelude.{ℕ, List, codes, ◌==◌, ◌&&◌, if◌then◌else◌, Option, Some, None}
use Rattle.verilog_syntax.specs.declared.token.Sign.{Sign}
use Rattle.verilog_syntax.specs.declared.token.Sign.TheVariants as s
use Rattle.verilog_syntax.specs.declared.token.Keyword.{Keyword}
use Rattle.verilog_syntax.specs.declared.token.Keyword.TheVariants as k

abbrev pub sign_text : Sign → List ℕ
sign_text s.LeftParen = codes "("
sign_text s.RightParen = codes ")"
sign_text s.LeftBracket = codes "["
sign_text s.RightBracket = codes "]"
sign_text s.LeftBrace = codes "{"
sign_text s.RightBrace = codes "}"
sign_text s.Semicolon = codes ";"
sign_text s.Comma = codes ","
sign_text s.Colon = codes ":"
sign_text s.Question = codes "?"
sign_text s.Equal = codes "="
sign_text s.At = codes "@"
sign_text s.Tilde = codes "~"
sign_text s.Plus = codes "+"
sign_text s.Minus = codes "-"
sign_text s.Star = codes "*"
sign_text s.Ampersand = codes "&"
sign_text s.Bar = codes "|"
sign_text s.Caret = codes "^"
sign_text s.EqualEqual = codes "=="
sign_text s.Less = codes "<"
sign_text s.LessEqual = codes "<="
sign_text s.ShiftLeft = codes "<<"
sign_text s.ShiftRight = codes ">>"

abbrev pub keyword_text : Keyword → List ℕ
keyword_text k.Module = codes "module"
keyword_text k.Clock = codes "clk"
keyword_text k.Input = codes "input"
keyword_text k.Output = codes "output"
keyword_text k.Reg = codes "reg"
keyword_text k.Wire = codes "wire"
keyword_text k.Assign = codes "assign"
keyword_text k.Always = codes "always"
keyword_text k.Posedge = codes "posedge"
keyword_text k.If = codes "if"
keyword_text k.Begin = codes "begin"
keyword_text k.End = codes "end"
keyword_text k.Endmodule = codes "endmodule"

-- the sign of two bytes
abbrev pub double_sign : ℕ → ℕ → Option Sign
double_sign a b =
    if (a == 61) && (b == 61) then Some s.EqualEqual
    else (if (a == 60) && (b == 61) then Some s.LessEqual
    else (if (a == 60) && (b == 60) then Some s.ShiftLeft
    else (if (a == 62) && (b == 62) then Some s.ShiftRight else None)))

-- the sign of one byte
abbrev pub single_sign : ℕ → Option Sign
single_sign c =
    if c == 40 then Some s.LeftParen
    else (if c == 41 then Some s.RightParen
    else (if c == 91 then Some s.LeftBracket
    else (if c == 93 then Some s.RightBracket
    else (if c == 123 then Some s.LeftBrace
    else (if c == 125 then Some s.RightBrace
    else (if c == 59 then Some s.Semicolon
    else (if c == 44 then Some s.Comma
    else (if c == 58 then Some s.Colon
    else (if c == 63 then Some s.Question
    else (if c == 61 then Some s.Equal
    else (if c == 64 then Some s.At
    else (if c == 126 then Some s.Tilde
    else (if c == 43 then Some s.Plus
    else (if c == 45 then Some s.Minus
    else (if c == 42 then Some s.Star
    else (if c == 38 then Some s.Ampersand
    else (if c == 124 then Some s.Bar
    else (if c == 94 then Some s.Caret
    else (if c == 60 then Some s.Less else None)))))))))))))))))))
