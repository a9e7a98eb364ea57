-- The text of a circuit as it is printed: each item on a line, without comments.
use Rattle.std.specs.Prelude.{ℕ, false, List, ◌++◌, codes}
use Rattle.std.specs.Fmt.{decimal, digits}
use Rattle.std.specs.List.{flat_map}
use Rattle.rtl_core.specs.Netlist.{Netlist}
use Rattle.rtl_core.specs.ModuleSyntax.{Operand, Named, Fixed, Expression, Alone, Inverted, Between, Chosen, Joined, Slice, WordOf, Declared, DeclaredMemory, DeclaredWire, Assign, Write, Always, Register, Writes, Syntax, operator}
use Rattle.verilog_print.specs.PrintedSyntax.{syntax_of}

-- the hexadecimal digits of a number, in lower case and without leading zeros
abbrev pub hexadecimal : ℕ → List ℕ
hexadecimal n = digits 16 false n

abbrev pub operand_text : Operand → List ℕ
operand_text (Named name) = name
operand_text (Fixed bits value) = decimal bits ++ (codes "'h" ++ hexadecimal value)

abbrev pub expression_text : Expression → List ℕ
expression_text (Alone a) = operand_text a
expression_text (Inverted a) = codes "~" ++ operand_text a
expression_text (Between op a b) = operand_text a ++ (codes " " ++ (operator op ++ (codes " " ++ operand_text b)))
expression_text (Chosen test a b) = operand_text test ++ (codes " ? " ++ (operand_text a ++ (codes " : " ++ operand_text b)))
expression_text (Joined high low) = codes "{" ++ (operand_text high ++ (codes ", " ++ (operand_text low ++ codes "}")))
expression_text (Slice name high low) = name ++ (codes "[" ++ (high ++ (codes ":" ++ (low ++ codes "]"))))
expression_text (WordOf memory address) = memory ++ (codes "[" ++ (operand_text address ++ codes "]"))

-- `KEYWORD [high:0] name;`
abbrev pub declared_text : List ℕ → Declared → List ℕ
declared_text keyword x = keyword ++ (codes " [" ++ (x.high ++ (codes ":0] " ++ (x.name ++ codes ";\n"))))

-- `reg [high:0] name [0:last];`
abbrev pub memory_text : DeclaredMemory → List ℕ
memory_text x = codes "reg [" ++ (x.high ++ (codes ":0] " ++ (x.name ++ (codes " [0:" ++ (x.last ++ codes "];\n")))))

-- `wire [high:0] name = net;`
abbrev pub wire_text : DeclaredWire → List ℕ
wire_text x = codes "wire [" ++ (x.high ++ (codes ":0] " ++ (x.name ++ (codes " = " ++ (expression_text x.net ++ codes ";\n")))))

-- `assign name = from;`
abbrev pub assign_text : Assign → List ℕ
assign_text x = codes "assign " ++ (x.name ++ (codes " = " ++ (operand_text x.from ++ codes ";\n")))

-- `if (enable)` and a space
abbrev pub test_text : Operand → List ℕ
test_text enable = codes "if (" ++ (operand_text enable ++ codes ") ")

-- `if (enable) memory[address] <= value;` and a space
abbrev pub write_text : Write → List ℕ
write_text x = test_text x.enable ++ (x.memory ++ (codes "[" ++ (operand_text x.address ++ (codes "] <= " ++ (operand_text x.value ++ codes "; ")))))

-- `if (enable) name <= next;`, or all writes of a memory between `begin` and `end`
abbrev pub block_text : Always → List ℕ
block_text (Register enable name next) = test_text enable ++ (name ++ (codes " <= " ++ (operand_text next ++ codes ";\n")))
block_text (Writes first others) = codes "begin " ++ (write_text first ++ (flat_map write_text others ++ codes "end\n"))

abbrev pub always_text : Always → List ℕ
always_text x = codes "always @(posedge clk) " ++ block_text x

abbrev pub header_text : List ℕ → List ℕ
header_text name = codes ", " ++ name

abbrev pub syntax_text : Syntax → List ℕ
syntax_text s =
    codes "module " ++ (s.name ++ (codes " (clk" ++ (flat_map header_text s.header ++ (codes ");\ninput clk;\n" ++ (flat_map (declared_text (codes "input")) s.inputs
    ++ (flat_map (declared_text (codes "output")) s.outputs ++ (flat_map (declared_text (codes "reg")) s.regs ++ (flat_map memory_text s.mems
    ++ (flat_map wire_text s.wires ++ (flat_map assign_text s.assigns ++ (flat_map always_text s.blocks ++ codes "endmodule\n")))))))))))

-- the text that is printed for a circuit
abbrev pub module_text : Netlist → List ℕ
module_text d = syntax_text (syntax_of d)
