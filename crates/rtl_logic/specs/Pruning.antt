-- A circuit without the registers and wires on which nothing depends.
use Rattle.std.specs.Prelude.{◌≡◌, ◌⊎◌, ◌≤◌, ℕ, ◌+◌, Bool, true, false, ◌&&◌, ◌||◌, ◌==◌, List, [], ◌∷◌, map, take, filter, length, slice_get, slice_index_or, Some, nat_lt, if◌then◌else◌}
use Rattle.std.specs.List.{All}
use Rattle.rtl_core.specs.declared.design.Atom.{Atom}
use Rattle.rtl_core.specs.declared.design.Atom.TheVariants as atom
use Rattle.rtl_core.specs.declared.design.Net.{Net}
use Rattle.rtl_core.specs.declared.design.Net.TheVariants as net
use Rattle.rtl_core.specs.declared.design.Wire.{Wire}
use Rattle.rtl_core.specs.declared.design.Reg.{Reg}
use Rattle.rtl_core.specs.declared.design.Port.{Port}
use Rattle.rtl_core.specs.declared.design.OutPin.{OutPin}
use Rattle.rtl_core.specs.Netlist.{Netlist, Memory}
use Rattle.rtl_core.specs.Resources.{is_product, is_difference, multipliers, dividers}
use Rattle.rtl_core.specs.Valid.{IsValid}
use Rattle.rtl_logic.specs.Reducing.{IsReducedBy}

-- ---- marks

-- which registers and which wires are marked
pub record Marked : Type 0 where
  pub regs : List Bool
  pub wires : List Bool

-- Constants and inputs always are, and so is a number that there is not.
abbrev pub is_marked : Marked → Atom → Bool
is_marked m (atom.Constant bits value) = true
is_marked m (atom.Input k) = true
is_marked m (atom.Reg k) = slice_index_or m.regs k true
is_marked m (atom.Wire k) = slice_index_or m.wires k true

abbrev pub IsMarked : Marked → Atom → Type 0
IsMarked m a = is_marked m a ≡ true

-- all that an expression reads
abbrev pub NetIsMarked : Marked → Net → Type 0
NetIsMarked m (net.Copy a) = IsMarked m a
NetIsMarked m (net.Not a) = IsMarked m a
NetIsMarked m (net.Two op a b) = IsMarked m a × IsMarked m b
NetIsMarked m (net.Pick test a b) = IsMarked m test × IsMarked m a × IsMarked m b
NetIsMarked m (net.Join high low) = IsMarked m high × IsMarked m low
NetIsMarked m (net.Part a high low) = IsMarked m a
NetIsMarked m (net.Word mem address) = IsMarked m address

-- all that a register takes
abbrev pub RegIsMarked : Marked → Reg → Type 0
RegIsMarked m r = IsMarked m r.enable × IsMarked m r.next

-- all that a port reads
abbrev pub PortIsMarked : Marked → Port → Type 0
PortIsMarked m p = IsMarked m p.addr × IsMarked m p.enable × IsMarked m p.value

-- a multiplier, or a divider of 32 or 64 bits
abbrev pub is_unit : Wire → Bool
is_unit w = is_product w.net || (is_difference w.net && ((w.bits == 33) || (w.bits == 65)))

-- what must stay: all that the outputs and the memories' ports read, and the units
pub record RootsAreMarked (d : Netlist) (m : Marked) : Type 0 where
  pub outputs : All (λ (o : OutPin). IsMarked m o.from) d.outputs
  pub ports : All (λ (x : Memory). All (PortIsMarked m) x.ports) d.mems
  pub units : (k : ℕ) (w : Wire) → slice_get d.wires k ≡ Some w → is_unit w ≡ true → IsMarked m (atom.Wire k)

-- What stays reads only what stays.
pub record IsClosed (d : Netlist) (m : Marked) : Type 0 where
  pub count_regs : length m.regs ≡ length d.regs
  pub count_wires : length m.wires ≡ length d.wires
  pub roots : RootsAreMarked d m
  pub regs : (k : ℕ) (r : Reg) → slice_get d.regs k ≡ Some r → IsMarked m (atom.Reg k) → RegIsMarked m r
  pub wires : (k : ℕ) (w : Wire) → slice_get d.wires k ≡ Some w → IsMarked m (atom.Wire k) → NetIsMarked m w.net

-- ---- what stays

-- the elements that are marked
abbrev pub kept : {A : Type 0} → List Bool → List A → List A
kept [] xs = []
kept (b ∷ bs) [] = []
kept (true ∷ bs) (x ∷ xs) = x ∷ kept bs xs
kept (false ∷ bs) (x ∷ xs) = kept bs xs

-- how many are marked
abbrev pub marks_in : List Bool → ℕ
marks_in marks = length (filter (λ b. b) marks)

-- how many marked ones stand before a place; a number behind the end stays
abbrev pub place_in : List Bool → ℕ → ℕ
place_in marks k = if nat_lt k (length marks) then marks_in (take k marks) else k

abbrev pub renamed : Marked → Atom → Atom
renamed m (atom.Constant bits value) = atom.Constant bits value
renamed m (atom.Input k) = atom.Input k
renamed m (atom.Reg k) = atom.Reg (place_in m.regs k)
renamed m (atom.Wire k) = atom.Wire (place_in m.wires k)

abbrev pub renamed_net : Marked → Net → Net
renamed_net m (net.Copy a) = net.Copy (renamed m a)
renamed_net m (net.Not a) = net.Not (renamed m a)
renamed_net m (net.Two op a b) = net.Two op (renamed m a) (renamed m b)
renamed_net m (net.Pick test a b) = net.Pick (renamed m test) (renamed m a) (renamed m b)
renamed_net m (net.Join high low) = net.Join (renamed m high) (renamed m low)
renamed_net m (net.Part a high low) = net.Part (renamed m a) high low
renamed_net m (net.Word mem address) = net.Word mem (renamed m address)

abbrev pub renamed_wire : Marked → Wire → Wire
renamed_wire m w = record { bits = w.bits; net = renamed_net m w.net }

abbrev pub renamed_reg : Marked → Reg → Reg
renamed_reg m r = record { bits = r.bits; enable = renamed m r.enable; next = renamed m r.next }

abbrev pub renamed_port : Marked → Port → Port
renamed_port m p = record { addr = renamed m p.addr; enable = renamed m p.enable; value = renamed m p.value }

abbrev pub renamed_memory : Marked → Memory → Memory
renamed_memory m x = record { bits = x.bits; depth_log = x.depth_log; ports = map (renamed_port m) x.ports }

abbrev pub renamed_output : Marked → OutPin → OutPin
renamed_output m o = record o { from = renamed m o.from }

-- the circuit of what is marked
abbrev pub reduced : Marked → Netlist → Netlist
reduced m d = record {
  name = d.name;
  inputs = d.inputs;
  outputs = map (renamed_output m) d.outputs;
  regs = map (renamed_reg m) (kept m.regs d.regs);
  mems = map (renamed_memory m) d.mems;
  wires = map (renamed_wire m) (kept m.wires d.wires);
}

-- the numbers of the marked ones, the first of them from n on
abbrev pub marked_places : ℕ → List Bool → List ℕ
marked_places n [] = []
marked_places n (true ∷ bs) = n ∷ marked_places (n + 1) bs
marked_places n (false ∷ bs) = marked_places (n + 1) bs

-- The second circuit is the first one with fewer registers and wires, is as valid, and has as many multipliers and dividers. No choice of registers and wires that holds what must stay, and reads only what it holds, is smaller.
pub record IsPruned (d e : Netlist) : Type 0 where
  pub keep : List ℕ
  pub reduced_by : IsReducedBy keep d e
  pub valid : IsValid e
  pub products : (bits : ℕ) → multipliers bits e ≡ multipliers bits d
  pub differences : (bits : ℕ) → (bits ≡ 32) ⊎ (bits ≡ 64) → dividers bits e ≡ dividers bits d
  pub least : (m : Marked) → IsClosed d m → (length e.regs ≤ marks_in m.regs) × (length e.wires ≤ marks_in m.wires)
