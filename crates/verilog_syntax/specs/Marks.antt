-- The tokens of what a module's text says, each with its place where a fault may stand there.
use Rattle.std.specs.Prelude.{◌≡◌, ℕ, Bool, true, false, not, ◌&&◌, ◌||◌, List, [], ◌∷◌, ◌++◌, codes, if◌then◌else◌}
use Rattle.hls_base.specs.declared.place.Place.{Place}
use Rattle.rtl_core.specs.ModuleTokens.{Token, Word, Number, Constant, Sign}
use Rattle.rtl_core.specs.ModuleSyntax.{Operand, Named, Fixed, operator}
use Rattle.verilog_syntax.specs.Lexemes.{Lexeme}
use Rattle.verilog_syntax.specs.PlacedSyntax.{PlacedName, PlacedOperand, PlacedNet, alone, inverted, between, chosen, joined, slice, word_of, PlacedDeclared, PlacedMemory, PlacedWire, PlacedAssign, PlacedWrite, Drive, register, first, further, PlacedModule}

pub data Mark : Type 0 where
  fixed : Token → Mark
  at : Token → Place → Mark

abbrev pub Stands : Lexeme → Mark → Type 0
Stands l (fixed token) = l.token ≡ token
Stands l (at token place) = (l.token ≡ token) × (l.place ≡ place)

-- the tokens and their places are those of the marks
abbrev pub Stand : List Lexeme → List Mark → Type 0
Stand [] [] = Unit {0}
Stand [] (m ∷ ms) = ⊥
Stand (l ∷ ls) [] = ⊥
Stand (l ∷ ls) (m ∷ ms) = Stands l m × Stand ls ms

abbrev pub word : List ℕ → Mark
word text = fixed (Word text)

abbrev pub sign : List ℕ → Mark
sign text = fixed (Sign text)

abbrev pub number : List ℕ → Mark
number digits = fixed (Number digits)

abbrev pub name_mark : PlacedName → Mark
name_mark x = at (Word x.text) x.place

abbrev pub operand_token : Operand → Token
operand_token (Named name) = Word name
operand_token (Fixed bits value) = Constant bits value

abbrev pub operand_mark : PlacedOperand → Mark
operand_mark x = at (operand_token x.operand) x.place

-- `keyword [high:0] name` and what follows
abbrev pub range_marks : List ℕ → List ℕ → PlacedName → List Mark → List Mark
range_marks keyword high name rest =
    word keyword ∷ sign (codes "[") ∷ number high ∷ sign (codes ":") ∷ number (codes "0") ∷ sign (codes "]") ∷ name_mark name ∷ rest

abbrev pub declared_marks : List ℕ → PlacedDeclared → List Mark
declared_marks keyword x = range_marks keyword x.high x.name (sign (codes ";") ∷ [])

abbrev pub memory_marks : PlacedMemory → List Mark
memory_marks x =
    range_marks (codes "reg") x.high x.name (sign (codes "[") ∷ number (codes "0") ∷ sign (codes ":") ∷ number x.last ∷ sign (codes "]") ∷ sign (codes ";") ∷ [])

-- a net whose first token stands there, and a semicolon
abbrev pub net_marks : Place → PlacedNet → List Mark
net_marks place (alone a) = operand_mark a ∷ sign (codes ";") ∷ []
net_marks place (inverted a) = at (Sign (codes "~")) place ∷ operand_mark a ∷ sign (codes ";") ∷ []
net_marks place (between op a b) = operand_mark a ∷ sign (operator op) ∷ operand_mark b ∷ sign (codes ";") ∷ []
net_marks place (chosen a b c) = operand_mark a ∷ sign (codes "?") ∷ operand_mark b ∷ sign (codes ":") ∷ operand_mark c ∷ sign (codes ";") ∷ []
net_marks place (joined a b) = at (Sign (codes "{")) place ∷ operand_mark a ∷ sign (codes ",") ∷ operand_mark b ∷ sign (codes "}") ∷ sign (codes ";") ∷ []
net_marks place (slice name high low) = name_mark name ∷ sign (codes "[") ∷ number high ∷ sign (codes ":") ∷ number low ∷ sign (codes "]") ∷ sign (codes ";") ∷ []
net_marks place (word_of memory a) = name_mark memory ∷ sign (codes "[") ∷ operand_mark a ∷ sign (codes "]") ∷ sign (codes ";") ∷ []

-- the place of a net that does not begin with a sign is that of its first operand or name
abbrev pub NetStands : Place → PlacedNet → Type 0
NetStands place (alone a) = place ≡ a.place
NetStands place (inverted a) = Unit {0}
NetStands place (between op a b) = place ≡ a.place
NetStands place (chosen a b c) = place ≡ a.place
NetStands place (joined a b) = Unit {0}
NetStands place (slice name high low) = place ≡ name.place
NetStands place (word_of memory a) = place ≡ memory.place

abbrev pub wire_marks : PlacedWire → List Mark
wire_marks x = range_marks (codes "wire") x.high x.name (sign (codes "=") ∷ net_marks x.place x.net)

abbrev pub assign_marks : PlacedAssign → List Mark
assign_marks x = word (codes "assign") ∷ name_mark x.name ∷ sign (codes "=") ∷ operand_mark x.from ∷ sign (codes ";") ∷ []

-- `if (enable) name` and what follows
abbrev pub test_marks : PlacedOperand → PlacedName → List Mark → List Mark
test_marks enable name rest = word (codes "if") ∷ sign (codes "(") ∷ operand_mark enable ∷ sign (codes ")") ∷ name_mark name ∷ rest

abbrev pub write_marks : PlacedWrite → List Mark
write_marks x =
    test_marks x.enable x.memory (sign (codes "[") ∷ operand_mark x.address ∷ sign (codes "]") ∷ sign (codes "<=") ∷ operand_mark x.value ∷ sign (codes ";") ∷ [])

-- `always @(posedge clk)` and what follows
abbrev pub always_marks : List Mark → List Mark
always_marks rest = word (codes "always") ∷ sign (codes "@") ∷ sign (codes "(") ∷ word (codes "posedge") ∷ word (codes "clk") ∷ sign (codes ")") ∷ rest

-- what stands for an edge itself, behind the end of a block before it
abbrev pub drive_marks : Drive → List Mark
drive_marks (register enable name next) = always_marks (test_marks enable name (sign (codes "<=") ∷ operand_mark next ∷ sign (codes ";") ∷ []))
drive_marks (first x) = always_marks (word (codes "begin") ∷ write_marks x)
drive_marks (further x) = write_marks x

-- whether a block is open behind it
abbrev pub opens : Drive → Bool
opens (register enable name next) = false
opens (first x) = true
opens (further x) = true

-- whether it stands in the block that is open before it
abbrev pub goes_on : Drive → Bool
goes_on (register enable name next) = false
goes_on (first x) = false
goes_on (further x) = true

abbrev pub end_marks : Bool → List Mark
end_marks is_open = if is_open then word (codes "end") ∷ [] else []

-- the `end` before what stands there, if it ends an open block
abbrev pub end_before : Bool → Drive → List Mark
end_before is_open drive = if goes_on drive then [] else end_marks is_open

abbrev pub is_open_behind : Bool → List Drive → Bool
is_open_behind is_open [] = is_open
is_open_behind is_open (d ∷ ds) = is_open_behind (opens d) ds

-- a further port stands where a block is open
abbrev pub in_blocks : Bool → List Drive → Bool
in_blocks is_open [] = true
in_blocks is_open (d ∷ ds) = (is_open || not (goes_on d)) && in_blocks (opens d) ds

-- all edges, where a block may be left open
abbrev pub open_marks : Bool → List Drive → List Mark
open_marks is_open [] = []
open_marks is_open (d ∷ ds) = end_before is_open d ++ (drive_marks d ++ open_marks (opens d) ds)

abbrev pub all_marks : {A : Type 0} → (A → List Mark) → List A → List Mark
all_marks marks [] = []
all_marks marks (x ∷ xs) = marks x ++ all_marks marks xs

abbrev pub header_mark : PlacedName → List Mark
header_mark x = sign (codes ",") ∷ name_mark x ∷ []

abbrev pub head_marks : PlacedModule → List Mark
head_marks m = word (codes "module") ∷ name_mark m.name ∷ sign (codes "(") ∷ word (codes "clk") ∷ all_marks header_mark m.header

abbrev pub clock_marks : List Mark
clock_marks = sign (codes ")") ∷ sign (codes ";") ∷ word (codes "input") ∷ word (codes "clk") ∷ sign (codes ";") ∷ []

-- the items and edges
abbrev pub item_marks : PlacedModule → List Mark
item_marks m =
    all_marks (declared_marks (codes "input")) m.inputs ++ (all_marks (declared_marks (codes "output")) m.outputs ++ (all_marks (declared_marks (codes "reg")) m.regs
    ++ (all_marks memory_marks m.mems ++ (all_marks wire_marks m.wires ++ (all_marks assign_marks m.assigns ++ open_marks false m.drives)))))

-- the whole text
abbrev pub module_marks : PlacedModule → List Mark
module_marks m = head_marks m ++ (clock_marks ++ (item_marks m ++ (end_marks (is_open_behind false m.drives) ++ (word (codes "endmodule") ∷ []))))
