-- Which items the text of a circuit has, in which order, and how registers, memories and wires are named there.
use Rattle.std.specs.Prelude.{ℕ, suc, ◌-◌, ◌^◌, List, [], ◌∷◌, ◌++◌, map, codes, slice_index_or}
use Rattle.std.specs.Fmt.{decimal}
use Rattle.rtl_core.specs.declared.design.Pin.{Pin}
use Rattle.rtl_core.specs.declared.design.OutPin.{OutPin}
use Rattle.rtl_core.specs.declared.design.Atom.{Atom}
use Rattle.rtl_core.specs.declared.design.Atom.TheVariants as atom
use Rattle.rtl_core.specs.declared.design.Net.{Net}
use Rattle.rtl_core.specs.declared.design.Net.TheVariants as net
use Rattle.rtl_core.specs.declared.design.Wire.{Wire}
use Rattle.rtl_core.specs.declared.design.Reg.{Reg}
use Rattle.rtl_core.specs.declared.design.Port.{Port}
use Rattle.rtl_core.specs.Netlist.{Netlist, Memory}
use Rattle.rtl_core.specs.Valid.{pin_names}
use Rattle.rtl_core.specs.ModuleSyntax.{Operand, Named, Fixed, Expression, Alone, Inverted, Between, Chosen, Joined, Slice, WordOf, Declared, DeclaredMemory, DeclaredWire, Assign, Write, Always, Register, Writes, Syntax}

-- ---- names

abbrev pub register_name : ℕ → List ℕ
register_name k = codes "r" ++ decimal k

abbrev pub memory_name : ℕ → List ℕ
memory_name k = codes "m" ++ decimal k

abbrev pub wire_name : ℕ → List ℕ
wire_name k = codes "w" ++ decimal k

-- the digits of the highest bit's number (IEEE 1364-2005, 4.3.1)
abbrev pub high_bit : ℕ → List ℕ
high_bit bits = decimal (bits - 1)

-- what is made of each element and its number, counted from k
abbrev pub numbered : {A B : Type 0} → (ℕ → A → B) → ℕ → List A → List B
numbered f k [] = []
numbered f k (x ∷ xs) = f k x ∷ numbered f (suc k) xs

-- ---- expressions, where the inputs are called `pins`

abbrev pub name_at : List Pin → ℕ → List ℕ
name_at pins k = slice_index_or (map (λ (p : Pin). p.name) pins) k []

abbrev pub operand_of : List Pin → Atom → Operand
operand_of pins (atom.Constant bits value) = Fixed bits value
operand_of pins (atom.Input k) = Named (name_at pins k)
operand_of pins (atom.Reg k) = Named (register_name k)
operand_of pins (atom.Wire k) = Named (wire_name k)

-- the name of an operand, of which a part is taken; a constant has none
abbrev pub name_of : Operand → List ℕ
name_of (Named name) = name
name_of (Fixed bits value) = []

abbrev pub expression_of : List Pin → Net → Expression
expression_of pins (net.Copy a) = Alone (operand_of pins a)
expression_of pins (net.Not a) = Inverted (operand_of pins a)
expression_of pins (net.Two op a b) = Between op (operand_of pins a) (operand_of pins b)
expression_of pins (net.Pick test a b) = Chosen (operand_of pins test) (operand_of pins a) (operand_of pins b)
expression_of pins (net.Join high low) = Joined (operand_of pins high) (operand_of pins low)
expression_of pins (net.Part a high low) = Slice (name_of (operand_of pins a)) (decimal high) (decimal low)
expression_of pins (net.Word mem address) = WordOf (memory_name mem) (operand_of pins address)

-- ---- items

abbrev pub input_of : Pin → Declared
input_of p = record { high = high_bit p.bits; name = p.name }

abbrev pub output_of : OutPin → Declared
output_of o = record { high = high_bit o.bits; name = o.name }

abbrev pub register_of : ℕ → Reg → Declared
register_of k r = record { high = high_bit r.bits; name = register_name k }

abbrev pub memory_at : ℕ → Memory → DeclaredMemory
memory_at k m = record { high = high_bit m.bits; name = memory_name k; last = decimal (2 ^ m.depth_log - 1) }

abbrev pub wire_of : List Pin → ℕ → Wire → DeclaredWire
wire_of pins k w = record { high = high_bit w.bits; name = wire_name k; net = expression_of pins w.net }

abbrev pub assign_of : List Pin → OutPin → Assign
assign_of pins o = record { name = o.name; from = operand_of pins o.from }

abbrev pub register_block : List Pin → ℕ → Reg → Always
register_block pins k r = Register (operand_of pins r.enable) (register_name k) (operand_of pins r.next)

abbrev pub write_of : List Pin → ℕ → Port → Write
write_of pins k p = record { enable = operand_of pins p.enable; memory = memory_name k; address = operand_of pins p.addr; value = operand_of pins p.value }

-- one block for all ports of a memory, and none where it has no port
abbrev pub ports_block : List Pin → ℕ → List Port → List Always
ports_block pins k [] = []
ports_block pins k (p ∷ ps) = Writes (write_of pins k p) (map (write_of pins k) ps) ∷ []

-- the blocks of memories, of which the first one has number k
abbrev pub memory_blocks : List Pin → ℕ → List Memory → List Always
memory_blocks pins k [] = []
memory_blocks pins k (m ∷ ms) = ports_block pins k m.ports ++ memory_blocks pins (suc k) ms

-- the items in the order of the circuit's lists
abbrev pub syntax_of : Netlist → Syntax
syntax_of d = record {
  name = d.name;
  header = pin_names d;
  inputs = map input_of d.inputs;
  outputs = map output_of d.outputs;
  regs = numbered register_of 0 d.regs;
  mems = numbered memory_at 0 d.mems;
  wires = numbered (wire_of d.inputs) 0 d.wires;
  assigns = map (assign_of d.inputs) d.outputs;
  blocks = numbered (register_block d.inputs) 0 d.regs ++ memory_blocks d.inputs 0 d.mems;
}
