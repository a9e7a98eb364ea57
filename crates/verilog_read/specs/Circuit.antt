-- The circuit of a module without a fault.
use Rattle.std.specs.Prelude.{ℕ, ◌+◌, ◌-◌, ◌^◌, min, List, [], ◌∷◌, map, drop, slice_get, Option, Some, None, unwrap_or}
use Rattle.std.specs.Option.{option_map_or}
use Rattle.rtl_core.specs.declared.design.Pin.{Pin}
use Rattle.rtl_core.specs.declared.design.OutPin.{OutPin}
use Rattle.rtl_core.specs.declared.design.Atom.{Atom}
use Rattle.rtl_core.specs.declared.design.Atom.TheVariants as atom
use Rattle.rtl_core.specs.declared.design.Net.{Net}
use Rattle.rtl_core.specs.declared.design.Net.TheVariants as net
use Rattle.rtl_core.specs.declared.design.Wire.{Wire}
use Rattle.rtl_core.specs.declared.design.Reg.{Reg}
use Rattle.rtl_core.specs.declared.design.Port.{Port}
use Rattle.rtl_core.specs.Netlist.{Netlist, Memory}
use Rattle.rtl_core.specs.ModuleTokens.{number_value}
use Rattle.rtl_core.specs.ModuleSyntax.{Named}
use Rattle.verilog_read.specs.declared.names.Entry.{Entry}
use Rattle.verilog_read.specs.Numbers.{declared_bits, depth_of}
use Rattle.verilog_syntax.specs.PlacedSyntax.{PlacedName, PlacedNet, alone, inverted, between, chosen, joined, slice, word_of, PlacedDeclared, PlacedMemory, PlacedWire, PlacedAssign, PlacedWrite, Drive, register, first, further, PlacedModule}
use Rattle.verilog_read.specs.Scope.{Scope, scope_of, atom_in}
use Rattle.verilog_read.specs.Faults.{Slots, slot, memory_of, output_slots, driven}

-- what stands where nothing is assigned, which is a fault
abbrev pub nothing : Atom
nothing = atom.Constant 1 0

abbrev pub small : List ℕ → ℕ
small digits = min (number_value digits) 255

abbrev pub memory_number : Scope → PlacedName → ℕ
memory_number scope memory = option_map_or (λ (e : Entry). min e.number (2 ^ 32 - 1)) (memory_of scope memory) 0

abbrev pub net_of : Scope → PlacedNet → Net
net_of scope (alone a) = net.Copy (atom_in scope a.operand)
net_of scope (inverted a) = net.Not (atom_in scope a.operand)
net_of scope (between op a b) = net.Two op (atom_in scope a.operand) (atom_in scope b.operand)
net_of scope (chosen a b c) = net.Pick (atom_in scope a.operand) (atom_in scope b.operand) (atom_in scope c.operand)
net_of scope (joined a b) = net.Join (atom_in scope a.operand) (atom_in scope b.operand)
net_of scope (slice name high low) = net.Part (atom_in scope (Named name.text)) (small high) (small low)
net_of scope (word_of memory a) = net.Word (memory_number scope memory) (atom_in scope a.operand)

abbrev pub wire_of : Scope → PlacedWire → Wire
wire_of scope x = record { bits = declared_bits x.high; net = net_of scope x.net }

abbrev pub input_of : PlacedDeclared → Pin
input_of x = record { name = x.name.text; bits = declared_bits x.high }

-- what an output shows
abbrev pub source : Scope → List PlacedAssign → Option ℕ → Atom
source scope assigns None = nothing
source scope assigns (Some i) = option_map_or (λ (x : PlacedAssign). atom_in scope x.from.operand) (slice_get assigns i) nothing

abbrev pub outputs_from : Scope → List PlacedAssign → Slots → ℕ → List PlacedDeclared → List OutPin
outputs_from scope assigns slots k [] = []
outputs_from scope assigns slots k (x ∷ xs) =
    record { name = x.name.text; bits = declared_bits x.high; from = source scope assigns (slot slots k) } ∷ outputs_from scope assigns slots (k + 1) xs

-- what sets a register
abbrev pub register_from : Scope → ℕ → Drive → Reg
register_from scope bits (register enable name next) = record { bits = bits; enable = atom_in scope enable.operand; next = atom_in scope next.operand }
register_from scope bits _ = record { bits = bits; enable = nothing; next = nothing }

abbrev pub register_by : Scope → List Drive → ℕ → Option ℕ → Reg
register_by scope drives bits None = record { bits = bits; enable = nothing; next = nothing }
register_by scope drives bits (Some i) = option_map_or (register_from scope bits) (slice_get drives i) (record { bits = bits; enable = nothing; next = nothing })

abbrev pub regs_from : Scope → List Drive → Slots → ℕ → List PlacedDeclared → List Reg
regs_from scope drives slots k [] = []
regs_from scope drives slots k (x ∷ xs) = register_by scope drives (declared_bits x.high) (slot slots k) ∷ regs_from scope drives slots (k + 1) xs

abbrev pub port_of : Scope → PlacedWrite → Port
port_of scope x = record { addr = atom_in scope x.address.operand; enable = atom_in scope x.enable.operand; value = atom_in scope x.value.operand }

-- the ports of a block behind its first one
abbrev pub further_ports : Scope → List Drive → List Port
further_ports scope [] = []
further_ports scope (register enable name next ∷ ds) = []
further_ports scope (first x ∷ ds) = []
further_ports scope (further x ∷ ds) = port_of scope x ∷ further_ports scope ds

abbrev pub block_ports : Scope → List Drive → List Port
block_ports scope [] = []
block_ports scope (register enable name next ∷ ds) = []
block_ports scope (first x ∷ ds) = port_of scope x ∷ further_ports scope ds
block_ports scope (further x ∷ ds) = []

-- the port with which a block begins, and one with which it goes on
abbrev pub first_port : Scope → Drive → Option Port
first_port scope (first x) = Some (port_of scope x)
first_port scope _ = None

abbrev pub further_port : Scope → Drive → Option Port
further_port scope (further x) = Some (port_of scope x)
further_port scope _ = None

abbrev pub ports_by : Scope → List Drive → Option ℕ → List Port
ports_by scope drives None = []
ports_by scope drives (Some i) = block_ports scope (drop i drives)

abbrev pub mems_from : Scope → List Drive → Slots → ℕ → List PlacedMemory → List Memory
mems_from scope drives slots k [] = []
mems_from scope drives slots k (x ∷ xs) =
    record { bits = declared_bits x.high; depth_log = unwrap_or (depth_of x.last) 0; ports = ports_by scope drives (slot slots k) } ∷ mems_from scope drives slots (k + 1) xs

-- the circuit, where the outputs, registers and memories are assigned so
abbrev pub circuit_with : Scope → PlacedModule → Slots → Slots → Slots → Netlist
circuit_with scope m outputs regs blocks = record {
  name = m.name.text;
  inputs = map input_of m.inputs;
  outputs = outputs_from scope m.assigns outputs 0 m.outputs;
  regs = regs_from scope m.drives regs 0 m.regs;
  mems = mems_from scope m.drives blocks 0 m.mems;
  wires = map (wire_of scope) m.wires;
}

abbrev pub circuit_of : PlacedModule → Netlist
circuit_of m =
    let scope = scope_of m in
    let s = driven scope m in
    circuit_with scope m (output_slots scope m) s.regs s.blocks
