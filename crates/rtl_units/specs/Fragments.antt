-- What multipliers, dividers, tables and memories append to a circuit.
use Rattle.std.specs.Prelude.{◌≡◌, ℕ, zero, suc, ◌+◌, ◌-◌, List, [], ◌∷◌, ◌++◌, map, length}
use Rattle.rtl_core.specs.declared.design.Atom.{Atom}
use Rattle.rtl_core.specs.declared.design.Atom.TheVariants as atom
use Rattle.rtl_core.specs.declared.design.Pair.TheVariants as pair
use Rattle.rtl_core.specs.declared.design.Net.{Net}
use Rattle.rtl_core.specs.declared.design.Net.TheVariants as net
use Rattle.rtl_core.specs.declared.design.Wire.{Wire}
use Rattle.rtl_core.specs.declared.design.Reg.{Reg}
use Rattle.rtl_core.specs.declared.design.Port.{Port}
use Rattle.rtl_core.specs.Netlist.{Netlist, Memory}

-- a circuit to which registers, memories and wires are appended
abbrev pub grown : Netlist → List Reg → List Memory → List Wire → Netlist
grown d regs mems wires =
    record { name = d.name; inputs = d.inputs; outputs = d.outputs; regs = d.regs ++ regs; mems = d.mems ++ mems; wires = d.wires ++ wires }

-- a circuit with nothing but a name
abbrev pub empty : List ℕ → Netlist
empty name = record { name = name; inputs = []; outputs = []; regs = []; mems = []; wires = [] }

abbrev pub wire_of : ℕ → Net → Wire
wire_of bits net = record { bits = bits; net = net }

abbrev pub register_of : ℕ → Atom → Atom → Reg
register_of bits enable next = record { bits = bits; enable = enable; next = next }

abbrev pub one_bit : Atom
one_bit = atom.Constant 1 1

-- both operands are taken at one edge, and their product at the next; the registers are numbered from r and the wire is number w
abbrev pub multiplier_registers : ℕ → ℕ → Atom → Atom → List Reg
multiplier_registers w bits left right = register_of bits one_bit left ∷ register_of bits one_bit right ∷ register_of bits one_bit (atom.Wire w) ∷ []

abbrev pub multiplier_wires : ℕ → ℕ → List Wire
multiplier_wires r bits = wire_of bits (net.Two pair.Mul (atom.Reg r) (atom.Reg (r + 1))) ∷ []

abbrev pub memory_with : ℕ → ℕ → List Port → Memory
memory_with bits depth_log ports = record { bits = bits; depth_log = depth_log; ports = ports }

-- the word of memory number m at each port's address
abbrev pub port_wire : ℕ → ℕ → Port → Wire
port_wire m bits p = wire_of bits (net.Word m p.addr)

abbrev pub port_wires : ℕ → ℕ → List Port → List Wire
port_wires m bits ports = map (port_wire m bits) ports

-- so many wires from number w on
abbrev pub wires_from : ℕ → ℕ → List Atom
wires_from w zero = []
wires_from w (suc n) = atom.Wire w ∷ wires_from (suc w) n

abbrev pub zero_of : ℕ → Atom
zero_of bits = atom.Constant bits 0

-- the number so many places further, counted one by one
abbrev pub up : ℕ → ℕ → ℕ
up zero n = n
up (suc k) n = up k (n + 1)
