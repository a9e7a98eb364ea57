-- The small circuits between stages: queues, start controls, and pins that are held low. Pins within a circuit have no names.
use Rattle.std.specs.Prelude.{ℕ, ◌+◌, ◌-◌, List, [], ◌∷◌}
use Rattle.rtl_core.specs.declared.design.Atom.{Atom}
use Rattle.rtl_core.specs.declared.design.Atom.TheVariants as atom
use Rattle.rtl_core.specs.declared.design.Pair.TheVariants as pair
use Rattle.rtl_core.specs.declared.design.Net.{Net}
use Rattle.rtl_core.specs.declared.design.Net.TheVariants as net
use Rattle.rtl_core.specs.declared.design.Wire.{Wire}
use Rattle.rtl_core.specs.declared.design.Reg.{Reg}
use Rattle.rtl_core.specs.declared.design.Port.{Port}
use Rattle.rtl_core.specs.declared.design.Pin.{Pin}
use Rattle.rtl_core.specs.Netlist.{Netlist, Memory}
use Rattle.rtl_core.specs.Interface.{pin}

abbrev pub wire_of : ℕ → Net → Wire
wire_of bits net = record { bits = bits; net = net }

abbrev pub register_of : ℕ → Atom → Atom → Reg
register_of bits enable next = record { bits = bits; enable = enable; next = next }

abbrev pub port_of : Atom → Atom → Atom → Port
port_of addr enable value = record { addr = addr; enable = enable; value = value }

abbrev pub zero_of : ℕ → Atom
zero_of bits = atom.Constant bits 0

abbrev pub one_of : ℕ → Atom
one_of bits = atom.Constant bits 1

abbrev pub inputs_of : List ℕ → List Pin
inputs_of [] = []
inputs_of (bits ∷ widths) = pin [] bits ∷ inputs_of widths

abbrev pub unit_of : List ℕ → List Reg → List Memory → List Wire → Netlist
unit_of widths regs mems wires = record { name = []; inputs = inputs_of widths; outputs = []; regs = regs; mems = mems; wires = wires }

-- ---- pins that are held low, of 1, 5, 16 and 64 bits

abbrev pub low_wires : List Wire
low_wires = wire_of 1 (net.Copy (zero_of 1)) ∷ wire_of 5 (net.Copy (zero_of 5)) ∷ wire_of 16 (net.Copy (zero_of 16)) ∷ wire_of 64 (net.Copy (zero_of 64)) ∷ []

abbrev pub low_pins : Netlist
low_pins = unit_of [] [] [] low_wires

-- ---- the conjunction of two bits

abbrev pub both_wires : List Wire
both_wires = wire_of 1 (net.Two pair.And (atom.Input 0) (atom.Input 1)) ∷ []

abbrev pub both_bits : Netlist
both_bits = unit_of (1 ∷ 1 ∷ []) [] [] both_wires

-- ---- a queue: a memory of 2^log words used as a ring; register 0 is the number of the first item's word, and register 1 the count of items

-- the state of a queue: whether there is an item, whether there is room, and the first item
abbrev pub front_wires : ℕ → ℕ → ℕ → List Wire
front_wires depth log bits =
    wire_of 1 (net.Two pair.Below (zero_of (log + 1)) (atom.Reg 1))
    ∷ wire_of 1 (net.Two pair.Below (atom.Reg 1) (atom.Constant (log + 1) depth))
    ∷ wire_of bits (net.Word 0 (atom.Reg 0))
    ∷ []

-- the port that reads the first item
abbrev pub reading_port : ℕ → Port
reading_port bits = port_of (atom.Reg 0) (zero_of 1) (zero_of bits)

abbrev pub memory_of : ℕ → ℕ → List Port → Memory
memory_of log bits ports = record { bits = bits; depth_log = log; ports = ports }

abbrev pub queue_front : ℕ → ℕ → ℕ → Netlist
queue_front depth log bits =
    unit_of [] (register_of log (zero_of 1) (atom.Reg 0) ∷ register_of (log + 1) (zero_of 1) (atom.Reg 1) ∷ []) (memory_of log bits (reading_port bits ∷ []) ∷ []) (front_wires depth log bits)

-- The next state of a queue. The inputs are reset, whether the first item is removed, whether an item is appended, and that item. Wire 1 is the number of the word after the last item, wire 4 the next head, and wire 10 the next count.
abbrev pub back_wires : ℕ → List Wire
back_wires log =
    wire_of log (net.Part (atom.Reg 1) (log - 1) 0)
    ∷ wire_of log (net.Two pair.Add (atom.Reg 0) (atom.Wire 0))
    ∷ wire_of log (net.Two pair.Add (atom.Reg 0) (one_of log))
    ∷ wire_of 1 (net.Two pair.Or (atom.Input 0) (atom.Input 1))
    ∷ wire_of log (net.Pick (atom.Input 0) (zero_of log) (atom.Wire 2))
    ∷ wire_of (log + 1) (net.Two pair.Add (atom.Reg 1) (one_of (log + 1)))
    ∷ wire_of (log + 1) (net.Two pair.Sub (atom.Reg 1) (one_of (log + 1)))
    ∷ wire_of 1 (net.Two pair.Xor (atom.Input 1) (atom.Input 2))
    ∷ wire_of 1 (net.Two pair.Or (atom.Input 0) (atom.Wire 7))
    ∷ wire_of (log + 1) (net.Pick (atom.Input 2) (atom.Wire 5) (atom.Wire 6))
    ∷ wire_of (log + 1) (net.Pick (atom.Input 0) (zero_of (log + 1)) (atom.Wire 9))
    ∷ []

abbrev pub back_registers : ℕ → List Reg
back_registers log = register_of log (atom.Wire 3) (atom.Wire 4) ∷ register_of (log + 1) (atom.Wire 8) (atom.Wire 10) ∷ []

abbrev pub writing_port : Port
writing_port = port_of (atom.Wire 1) (atom.Input 2) (atom.Input 3)

abbrev pub queue_back : ℕ → ℕ → Netlist
queue_back log bits = unit_of (1 ∷ 1 ∷ 1 ∷ bits ∷ []) (back_registers log) (memory_of log bits (writing_port ∷ reading_port bits ∷ []) ∷ []) (back_wires log)

-- ---- the control of a stage

-- The inputs are reset, ready, done, whether the queue after the stage has room, and whether the queue before it has an item. Wire 1 says that the result is appended, wire 5 that the stage is started, and the register that the result is fresh.
abbrev pub control_wires : List Wire
control_wires =
    wire_of 1 (net.Two pair.And (atom.Input 2) (atom.Reg 0))
    ∷ wire_of 1 (net.Two pair.And (atom.Wire 0) (atom.Input 3))
    ∷ wire_of 1 (net.Not (atom.Reg 0))
    ∷ wire_of 1 (net.Two pair.Or (atom.Wire 2) (atom.Wire 1))
    ∷ wire_of 1 (net.Two pair.And (atom.Input 1) (atom.Wire 3))
    ∷ wire_of 1 (net.Two pair.And (atom.Wire 4) (atom.Input 4))
    ∷ wire_of 1 (net.Pick (atom.Wire 1) (zero_of 1) (atom.Reg 0))
    ∷ wire_of 1 (net.Pick (atom.Wire 5) (one_of 1) (atom.Wire 6))
    ∷ wire_of 1 (net.Pick (atom.Input 0) (zero_of 1) (atom.Wire 7))
    ∷ []

abbrev pub control_registers : List Reg
control_registers = register_of 1 (one_of 1) (atom.Wire 8) ∷ []

abbrev pub control : Netlist
control = unit_of (1 ∷ 1 ∷ 1 ∷ 1 ∷ 1 ∷ []) control_registers [] control_wires
