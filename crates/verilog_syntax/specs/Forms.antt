-- The grammar of a module's text: it is a row of forms, each of which may stand behind the one before.
use Rattle.std.specs.Prelude.{◌≡◌, ◌⊎◌, ℕ, List, [], ◌∷◌, ◌++◌, codes}
use Rattle.std.specs.List.{Contains}
use Rattle.rtl_core.specs.declared.design.Pair.{Pair}
use Rattle.rtl_core.specs.Valid.{IsName}
use Rattle.rtl_core.specs.ModuleTokens.{Token, Word, Number, Constant, Sign}
use Rattle.rtl_core.specs.ModuleSyntax.{operator}
use Rattle.verilog_syntax.specs.declared.token.Keyword.TheVariants as k
use Rattle.verilog_syntax.specs.declared.token.Sign.TheVariants as s
use Rattle.verilog_syntax.specs.declared.form.Class.{Class}
use Rattle.verilog_syntax.specs.declared.form.Class.TheVariants as c
use Rattle.verilog_syntax.specs.declared.form.Form.{Form}
use Rattle.verilog_syntax.specs.declared.form.Form.TheVariants as f
use Rattle.verilog_syntax.specs.Signs.{keyword_text, sign_text}

abbrev pub IsNameToken : Token → Type 0
IsNameToken token = (text : List ℕ) × (token ≡ Word text) × IsName text

abbrev pub FitsClass : Class → Token → Type 0
FitsClass (c.Word k) token = token ≡ Word (keyword_text k)
FitsClass (c.Mark s) token = token ≡ Sign (sign_text s)
FitsClass c.Name token = IsNameToken token
FitsClass c.Number token = (digits : List ℕ) × (token ≡ Number digits)
FitsClass c.Zero token = token ≡ Number (codes "0")
FitsClass c.Operand token = IsNameToken token ⊎ ((bits : ℕ) × (value : ℕ) × (token ≡ Constant bits value))
FitsClass c.Operator token = (op : Pair) × (token ≡ Sign (operator op))

-- one token for each class
abbrev pub FitsAll : List Class → List Token → Type 0
FitsAll [] [] = Unit {0}
FitsAll [] (t ∷ ts) = ⊥
FitsAll (c ∷ cs) [] = ⊥
FitsAll (c ∷ cs) (t ∷ ts) = FitsClass c t × FitsAll cs ts

abbrev pub classes_of : Form → List Class
classes_of f.Start = []
classes_of f.Head = (c.Word k.Module) ∷ c.Name ∷ (c.Mark s.LeftParen) ∷ (c.Word k.Clock) ∷ []
classes_of f.HeaderName = (c.Mark s.Comma) ∷ c.Name ∷ []
classes_of f.Clock = (c.Mark s.RightParen) ∷ (c.Mark s.Semicolon) ∷ (c.Word k.Input) ∷ (c.Word k.Clock) ∷ (c.Mark s.Semicolon) ∷ []
classes_of f.Input = (c.Word k.Input) ∷ (c.Mark s.LeftBracket) ∷ c.Number ∷ (c.Mark s.Colon) ∷ c.Zero ∷ (c.Mark s.RightBracket) ∷ c.Name ∷ (c.Mark s.Semicolon) ∷ []
classes_of f.Output = (c.Word k.Output) ∷ (c.Mark s.LeftBracket) ∷ c.Number ∷ (c.Mark s.Colon) ∷ c.Zero ∷ (c.Mark s.RightBracket) ∷ c.Name ∷ (c.Mark s.Semicolon) ∷ []
classes_of f.Register = (c.Word k.Reg) ∷ (c.Mark s.LeftBracket) ∷ c.Number ∷ (c.Mark s.Colon) ∷ c.Zero ∷ (c.Mark s.RightBracket) ∷ c.Name ∷ (c.Mark s.Semicolon) ∷ []
classes_of f.Memory = (c.Word k.Reg) ∷ (c.Mark s.LeftBracket) ∷ c.Number ∷ (c.Mark s.Colon) ∷ c.Zero ∷ (c.Mark s.RightBracket) ∷ c.Name ∷ (c.Mark s.LeftBracket) ∷ c.Zero ∷ (c.Mark s.Colon) ∷ c.Number ∷ (c.Mark s.RightBracket) ∷ (c.Mark s.Semicolon) ∷ []
classes_of f.CopyWire = (c.Word k.Wire) ∷ (c.Mark s.LeftBracket) ∷ c.Number ∷ (c.Mark s.Colon) ∷ c.Zero ∷ (c.Mark s.RightBracket) ∷ c.Name ∷ (c.Mark s.Equal) ∷ c.Operand ∷ (c.Mark s.Semicolon) ∷ []
classes_of f.NotWire = (c.Word k.Wire) ∷ (c.Mark s.LeftBracket) ∷ c.Number ∷ (c.Mark s.Colon) ∷ c.Zero ∷ (c.Mark s.RightBracket) ∷ c.Name ∷ (c.Mark s.Equal) ∷ (c.Mark s.Tilde) ∷ c.Operand ∷ (c.Mark s.Semicolon) ∷ []
classes_of f.PairWire = (c.Word k.Wire) ∷ (c.Mark s.LeftBracket) ∷ c.Number ∷ (c.Mark s.Colon) ∷ c.Zero ∷ (c.Mark s.RightBracket) ∷ c.Name ∷ (c.Mark s.Equal) ∷ c.Operand ∷ c.Operator ∷ c.Operand ∷ (c.Mark s.Semicolon) ∷ []
classes_of f.PickWire = (c.Word k.Wire) ∷ (c.Mark s.LeftBracket) ∷ c.Number ∷ (c.Mark s.Colon) ∷ c.Zero ∷ (c.Mark s.RightBracket) ∷ c.Name ∷ (c.Mark s.Equal) ∷ c.Operand ∷ (c.Mark s.Question) ∷ c.Operand ∷ (c.Mark s.Colon) ∷ c.Operand ∷ (c.Mark s.Semicolon) ∷ []
classes_of f.JoinWire = (c.Word k.Wire) ∷ (c.Mark s.LeftBracket) ∷ c.Number ∷ (c.Mark s.Colon) ∷ c.Zero ∷ (c.Mark s.RightBracket) ∷ c.Name ∷ (c.Mark s.Equal) ∷ (c.Mark s.LeftBrace) ∷ c.Operand ∷ (c.Mark s.Comma) ∷ c.Operand ∷ (c.Mark s.RightBrace) ∷ (c.Mark s.Semicolon) ∷ []
classes_of f.PartWire = (c.Word k.Wire) ∷ (c.Mark s.LeftBracket) ∷ c.Number ∷ (c.Mark s.Colon) ∷ c.Zero ∷ (c.Mark s.RightBracket) ∷ c.Name ∷ (c.Mark s.Equal) ∷ c.Name ∷ (c.Mark s.LeftBracket) ∷ c.Number ∷ (c.Mark s.Colon) ∷ c.Number ∷ (c.Mark s.RightBracket) ∷ (c.Mark s.Semicolon) ∷ []
classes_of f.WordWire = (c.Word k.Wire) ∷ (c.Mark s.LeftBracket) ∷ c.Number ∷ (c.Mark s.Colon) ∷ c.Zero ∷ (c.Mark s.RightBracket) ∷ c.Name ∷ (c.Mark s.Equal) ∷ c.Name ∷ (c.Mark s.LeftBracket) ∷ c.Operand ∷ (c.Mark s.RightBracket) ∷ (c.Mark s.Semicolon) ∷ []
classes_of f.Assign = (c.Word k.Assign) ∷ c.Name ∷ (c.Mark s.Equal) ∷ c.Operand ∷ (c.Mark s.Semicolon) ∷ []
classes_of f.RegisterBlock = (c.Word k.Always) ∷ (c.Mark s.At) ∷ (c.Mark s.LeftParen) ∷ (c.Word k.Posedge) ∷ (c.Word k.Clock) ∷ (c.Mark s.RightParen) ∷ (c.Word k.If) ∷ (c.Mark s.LeftParen) ∷ c.Operand ∷ (c.Mark s.RightParen) ∷ c.Name ∷ (c.Mark s.LessEqual) ∷ c.Operand ∷ (c.Mark s.Semicolon) ∷ []
classes_of f.MemoryBlock = (c.Word k.Always) ∷ (c.Mark s.At) ∷ (c.Mark s.LeftParen) ∷ (c.Word k.Posedge) ∷ (c.Word k.Clock) ∷ (c.Mark s.RightParen) ∷ (c.Word k.Begin) ∷ (c.Word k.If) ∷ (c.Mark s.LeftParen) ∷ c.Operand ∷ (c.Mark s.RightParen) ∷ c.Name ∷ (c.Mark s.LeftBracket) ∷ c.Operand ∷ (c.Mark s.RightBracket) ∷ (c.Mark s.LessEqual) ∷ c.Operand ∷ (c.Mark s.Semicolon) ∷ []
classes_of f.Port = (c.Word k.If) ∷ (c.Mark s.LeftParen) ∷ c.Operand ∷ (c.Mark s.RightParen) ∷ c.Name ∷ (c.Mark s.LeftBracket) ∷ c.Operand ∷ (c.Mark s.RightBracket) ∷ (c.Mark s.LessEqual) ∷ c.Operand ∷ (c.Mark s.Semicolon) ∷ []
classes_of f.BlockEnd = (c.Word k.End) ∷ []
classes_of f.ModuleEnd = (c.Word k.Endmodule) ∷ []

-- the items of a module in their order
abbrev pub items : List Form
items = f.Input ∷ f.Output ∷ f.Register ∷ f.Memory ∷ f.CopyWire ∷ f.NotWire ∷ f.PairWire ∷ f.PickWire ∷ f.JoinWire ∷ f.PartWire ∷ f.WordWire ∷ f.Assign ∷ f.RegisterBlock ∷ f.MemoryBlock ∷ f.ModuleEnd ∷ []

abbrev pub followers_of : Form → List Form
followers_of f.Start = f.Head ∷ []
followers_of f.Head = f.HeaderName ∷ f.Clock ∷ []
followers_of f.HeaderName = f.HeaderName ∷ f.Clock ∷ []
followers_of f.Clock = f.Input ∷ f.Output ∷ f.Register ∷ f.Memory ∷ f.CopyWire ∷ f.NotWire ∷ f.PairWire ∷ f.PickWire ∷ f.JoinWire ∷ f.PartWire ∷ f.WordWire ∷ f.Assign ∷ f.RegisterBlock ∷ f.MemoryBlock ∷ f.ModuleEnd ∷ []
followers_of f.Input = f.Input ∷ f.Output ∷ f.Register ∷ f.Memory ∷ f.CopyWire ∷ f.NotWire ∷ f.PairWire ∷ f.PickWire ∷ f.JoinWire ∷ f.PartWire ∷ f.WordWire ∷ f.Assign ∷ f.RegisterBlock ∷ f.MemoryBlock ∷ f.ModuleEnd ∷ []
followers_of f.Output = f.Output ∷ f.Register ∷ f.Memory ∷ f.CopyWire ∷ f.NotWire ∷ f.PairWire ∷ f.PickWire ∷ f.JoinWire ∷ f.PartWire ∷ f.WordWire ∷ f.Assign ∷ f.RegisterBlock ∷ f.MemoryBlock ∷ f.ModuleEnd ∷ []
followers_of f.Register = f.Register ∷ f.Memory ∷ f.CopyWire ∷ f.NotWire ∷ f.PairWire ∷ f.PickWire ∷ f.JoinWire ∷ f.PartWire ∷ f.WordWire ∷ f.Assign ∷ f.RegisterBlock ∷ f.MemoryBlock ∷ f.ModuleEnd ∷ []
followers_of f.Memory = f.Memory ∷ f.CopyWire ∷ f.NotWire ∷ f.PairWire ∷ f.PickWire ∷ f.JoinWire ∷ f.PartWire ∷ f.WordWire ∷ f.Assign ∷ f.RegisterBlock ∷ f.MemoryBlock ∷ f.ModuleEnd ∷ []
followers_of f.CopyWire = f.CopyWire ∷ f.NotWire ∷ f.PairWire ∷ f.PickWire ∷ f.JoinWire ∷ f.PartWire ∷ f.WordWire ∷ f.Assign ∷ f.RegisterBlock ∷ f.MemoryBlock ∷ f.ModuleEnd ∷ []
followers_of f.NotWire = f.CopyWire ∷ f.NotWire ∷ f.PairWire ∷ f.PickWire ∷ f.JoinWire ∷ f.PartWire ∷ f.WordWire ∷ f.Assign ∷ f.RegisterBlock ∷ f.MemoryBlock ∷ f.ModuleEnd ∷ []
followers_of f.PairWire = f.CopyWire ∷ f.NotWire ∷ f.PairWire ∷ f.PickWire ∷ f.JoinWire ∷ f.PartWire ∷ f.WordWire ∷ f.Assign ∷ f.RegisterBlock ∷ f.MemoryBlock ∷ f.ModuleEnd ∷ []
followers_of f.PickWire = f.CopyWire ∷ f.NotWire ∷ f.PairWire ∷ f.PickWire ∷ f.JoinWire ∷ f.PartWire ∷ f.WordWire ∷ f.Assign ∷ f.RegisterBlock ∷ f.MemoryBlock ∷ f.ModuleEnd ∷ []
followers_of f.JoinWire = f.CopyWire ∷ f.NotWire ∷ f.PairWire ∷ f.PickWire ∷ f.JoinWire ∷ f.PartWire ∷ f.WordWire ∷ f.Assign ∷ f.RegisterBlock ∷ f.MemoryBlock ∷ f.ModuleEnd ∷ []
followers_of f.PartWire = f.CopyWire ∷ f.NotWire ∷ f.PairWire ∷ f.PickWire ∷ f.JoinWire ∷ f.PartWire ∷ f.WordWire ∷ f.Assign ∷ f.RegisterBlock ∷ f.MemoryBlock ∷ f.ModuleEnd ∷ []
followers_of f.WordWire = f.CopyWire ∷ f.NotWire ∷ f.PairWire ∷ f.PickWire ∷ f.JoinWire ∷ f.PartWire ∷ f.WordWire ∷ f.Assign ∷ f.RegisterBlock ∷ f.MemoryBlock ∷ f.ModuleEnd ∷ []
followers_of f.Assign = f.Assign ∷ f.RegisterBlock ∷ f.MemoryBlock ∷ f.ModuleEnd ∷ []
followers_of f.RegisterBlock = f.RegisterBlock ∷ f.MemoryBlock ∷ f.ModuleEnd ∷ []
followers_of f.MemoryBlock = f.Port ∷ f.BlockEnd ∷ []
followers_of f.Port = f.Port ∷ f.BlockEnd ∷ []
followers_of f.BlockEnd = f.RegisterBlock ∷ f.MemoryBlock ∷ f.ModuleEnd ∷ []
followers_of f.ModuleEnd = []

-- the tokens are a row of forms behind this one, up to the end of the module
pub data Goes : Form → List Token → Type 0 where
  ended : Goes f.ModuleEnd []
  goes : (form next : Form) (taken rest : List Token) → Contains (followers_of form) next → FitsAll (classes_of next) taken → Goes next rest → Goes form (taken ++ rest)

-- the tokens of a module's text
abbrev pub IsModule : List Token → Type 0
IsModule tokens = Goes f.Start tokens

-- some module's text begins with these tokens
abbrev pub BeginsModule : List Token → Type 0
BeginsModule seen = (more : List Token) × IsModule (seen ++ more)
