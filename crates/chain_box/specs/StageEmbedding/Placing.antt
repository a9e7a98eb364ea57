-- A circuit as a part of a larger one: its inputs become atoms, and its registers, memories and wires get new numbers.
use Rattle.std.specs.Prelude.{◌≡◌, ℕ, ◌+◌, List, [], ◌++◌, map, length, slice_index, slice_index_or, slice_get, Some}
use Rattle.std.specs.List.{flat_map}
use Rattle.rtl_core.specs.declared.design.Atom.{Atom}
use Rattle.rtl_core.specs.declared.design.Atom.TheVariants as atom
use Rattle.rtl_core.specs.declared.design.Net.{Net}
use Rattle.rtl_core.specs.declared.design.Net.TheVariants as net
use Rattle.rtl_core.specs.declared.design.Wire.{Wire}
use Rattle.rtl_core.specs.declared.design.Reg.{Reg}
use Rattle.rtl_core.specs.declared.design.Port.{Port}
use Rattle.rtl_core.specs.declared.design.OutPin.{OutPin}
use Rattle.rtl_core.specs.Netlist.{Netlist, Memory}
use Rattle.rtl_core.specs.ClockStep.{State, input_widths, register_widths, widths_after}
use Rattle.rtl_core.specs.Valid.{HasBits, IsConstant}

-- the atom for each input, and the numbers of the first register, memory and wire
pub record Place : Type 0 where
  pub inputs : List Atom
  pub regs : ℕ
  pub mems : ℕ
  pub wires : ℕ

abbrev pub renamed : Place → Atom → Atom
renamed p (atom.Constant bits value) = atom.Constant bits value
renamed p (atom.Input k) = slice_index_or p.inputs k (atom.Constant 1 0)
renamed p (atom.Reg k) = atom.Reg (p.regs + k)
renamed p (atom.Wire k) = atom.Wire (p.wires + k)

abbrev pub renamed_net : Place → Net → Net
renamed_net p (net.Copy a) = net.Copy (renamed p a)
renamed_net p (net.Not a) = net.Not (renamed p a)
renamed_net p (net.Two op a b) = net.Two op (renamed p a) (renamed p b)
renamed_net p (net.Pick test a b) = net.Pick (renamed p test) (renamed p a) (renamed p b)
renamed_net p (net.Join high low) = net.Join (renamed p high) (renamed p low)
renamed_net p (net.Part a high low) = net.Part (renamed p a) high low
renamed_net p (net.Word mem address) = net.Word (p.mems + mem) (renamed p address)

abbrev pub renamed_wire : Place → Wire → Wire
renamed_wire p w = record { bits = w.bits; net = renamed_net p w.net }

abbrev pub renamed_wires : Place → List Wire → List Wire
renamed_wires p ws = map (renamed_wire p) ws

abbrev pub renamed_register : Place → Reg → Reg
renamed_register p r = record { bits = r.bits; enable = renamed p r.enable; next = renamed p r.next }

abbrev pub renamed_port : Place → Port → Port
renamed_port p x = record { addr = renamed p x.addr; enable = renamed p x.enable; value = renamed p x.value }

abbrev pub renamed_memory : Place → Memory → Memory
renamed_memory p m = record { bits = m.bits; depth_log = m.depth_log; ports = map (renamed_port p) m.ports }

-- ---- lists of parts

pub record Part : Type 0 where
  pub circuit : Netlist
  pub place : Place

abbrev pub part_wires : Part → List Wire
part_wires q = renamed_wires q.place q.circuit.wires

abbrev pub part_registers : Part → List Reg
part_registers q = map (renamed_register q.place) q.circuit.regs

abbrev pub part_memories : Part → List Memory
part_memories q = map (renamed_memory q.place) q.circuit.mems

abbrev pub wires_of : List Part → List Wire
wires_of parts = flat_map part_wires parts

abbrev pub registers_of : List Part → List Reg
registers_of parts = flat_map part_registers parts

abbrev pub memories_of : List Part → List Memory
memories_of parts = flat_map part_memories parts

-- a circuit with a wire for each output
abbrev pub exit_wire : OutPin → Wire
exit_wire o = record { bits = o.bits; net = net.Copy o.from }

abbrev pub with_exits : Netlist → Netlist
with_exits d = record { name = d.name; inputs = d.inputs; outputs = d.outputs; regs = d.regs; mems = d.mems; wires = d.wires ++ map exit_wire d.outputs }

-- ---- conditions on a place

-- Memory k of the list is as large as m, and has a port with the address of each port of m.
pub record HasMemory (p : Place) (m : Memory) (ms : List Memory) (k : ℕ) : Type 0 where
  pub memory : Memory
  pub found : slice_get ms k ≡ Some memory
  pub bits : memory.bits ≡ m.bits
  pub depth : memory.depth_log ≡ m.depth_log
  pub ports : (i : ℕ) (x : Port) → slice_get m.ports i ≡ Some x → (j : ℕ) × (y : Port) × (slice_get memory.ports j ≡ Some y) × (y.addr ≡ renamed p x.addr)

-- After the wires `before`, the larger circuit h has an atom of the right width for each input of d, and has d's registers and memories.
pub record HasPlace (d h : Netlist) (before : List Wire) (p : Place) : Type 0 where
  pub start : p.wires ≡ length before
  pub count : length p.inputs ≡ length d.inputs
  pub inputs : (k n : ℕ) → slice_get (input_widths d) k ≡ Some n → HasBits (widths_after h before) n (renamed p (atom.Input k))
  pub varies : (k n : ℕ) → slice_get (input_widths d) k ≡ Some n → ¬ IsConstant (renamed p (atom.Input k))
  pub regs : (k n : ℕ) → slice_get (register_widths d) k ≡ Some n → slice_get (register_widths h) (p.regs + k) ≡ Some n
  pub mems : (k : ℕ) (m : Memory) → slice_get d.mems k ≡ Some m → HasMemory p m h.mems (p.mems + k)

-- In the state t of the larger circuit, the registers and memories of the part hold what they hold in its own state s.
pub record HoldsPlace (d : Netlist) (s t : State) (p : Place) : Type 0 where
  pub regs : (k n : ℕ) → slice_get (register_widths d) k ≡ Some n → slice_index t.regs (p.regs + k) ≡ slice_index s.regs k
  pub mems : (k : ℕ) (m : Memory) → slice_get d.mems k ≡ Some m → slice_index_or t.mems (p.mems + k) [] ≡ slice_index_or s.mems k []
