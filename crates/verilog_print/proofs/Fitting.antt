-- What a valid circuit says of its atoms and expressions: each names something that there is, and constants fit 128 bits.
use Rattle.std.proofs.Common.{◌≡◌, ℕ, ◌^◌, ◌<◌, ◌≤◌, ◌∙◌, sym, refl, ap, subst, List, [], ◌∷◌, ◌++◌, map, length, append_assoc, length-append, arith}
use Rattle.std.proofs.Math.Nat.{pow-le-pow_right}
use Rattle.std.specs.List.{All}
use Rattle.std.proofs.lemmas.Option.{slice_get_within}
use Rattle.std.proofs.lemmas.List.{length-map}
use Rattle.std.proofs.lemmas.List.Elements.{All-nil, All-cons, All-weaker, All-push}
use Rattle.rtl_core.specs.declared.design.Pin.{Pin}
use Rattle.rtl_core.specs.declared.design.Atom.{Atom}
use Rattle.rtl_core.specs.declared.design.Atom.TheVariants as atom
use Rattle.rtl_core.specs.declared.design.Pair.{Pair}
use Rattle.rtl_core.specs.declared.design.Pair.TheVariants as pair
use Rattle.rtl_core.specs.declared.design.Net.{Net}
use Rattle.rtl_core.specs.declared.design.Net.TheVariants as net
use Rattle.rtl_core.specs.declared.design.Wire.{Wire}
use Rattle.rtl_core.specs.declared.design.Reg.{Reg}
use Rattle.rtl_core.specs.declared.design.Port.{Port}
use Rattle.rtl_core.specs.Netlist.{Netlist, Memory}
use Rattle.rtl_core.specs.ClockStep.{widths_after, widths}
use Rattle.rtl_core.specs.Valid.{IsBetween, HasBits, IsConstant, OperandsFit, NetFits, WiresFit, RegisterFits, PortFits, MemoryFits, IsValid}
use Rattle.verilog_print.proofs.Lists.{All-mapped}

-- the atom names something of the circuit, or is a constant of at most 128 bits
abbrev pub IsThere : Netlist → Atom → Type 0
IsThere d (atom.Constant bits value) = IsBetween 1 128 bits × (value < 2 ^ 128)
IsThere d (atom.Input k) = k < length d.inputs
IsThere d (atom.Reg k) = k < length d.regs
IsThere d (atom.Wire k) = k < length d.wires

two_powers : (m n : ℕ) → m ≤ n → 2 ^ m ≤ 2 ^ n
two_powers m n h = let two : 0 < 2 = omega arith in pow-le-pow_right two h

there : (d : Netlist) (before : List Wire) (n : ℕ) (a : Atom) → length before ≤ length d.wires → HasBits (widths_after d before) n a → IsThere d a
there d before n (atom.Constant bits value) le h =
    let same : n ≡ bits = sym h.0 in
    (subst (IsBetween 1 128) same h.1, omega (arith, h.2, two_powers n 128 h.1.1))
there d before n (atom.Input k) le h =
    omega (arith, slice_get_within (map (λ (p : Pin). p.bits) d.inputs) k n h, length-map d.inputs (λ (p : Pin). p.bits))
there d before n (atom.Reg k) le h =
    omega (arith, slice_get_within (map (λ (r : Reg). r.bits) d.regs) k n h, length-map d.regs (λ (r : Reg). r.bits))
there d before n (atom.Wire k) le h =
    omega (arith, slice_get_within (map (λ (w : Wire). w.bits) before) k n h, length-map before (λ (w : Wire). w.bits))

-- all that a wire of these may use has 1 to 128 bits
pub record AreNarrow (d : Netlist) (before : List Wire) : Type 0 where
  pub inputs : All (λ (p : Pin). IsBetween 1 128 p.bits) d.inputs
  pub regs : All (λ (r : Reg). IsBetween 1 128 r.bits) d.regs
  pub wires : All (λ (w : Wire). IsBetween 1 128 w.bits) before

narrow : (d : Netlist) (before : List Wire) (n : ℕ) (a : Atom) → AreNarrow d before → HasBits (widths_after d before) n a → n ≤ 128
narrow d before n (atom.Constant bits value) all h = h.1.1
narrow d before n (atom.Input k) all h = (All-mapped (IsBetween 1 128) (λ (p : Pin). p.bits) d.inputs k n all.inputs h).1
narrow d before n (atom.Reg k) all h = (All-mapped (IsBetween 1 128) (λ (r : Reg). r.bits) d.regs k n all.regs h).1
narrow d before n (atom.Wire k) all h = (All-mapped (IsBetween 1 128) (λ (w : Wire). w.bits) before k n all.wires h).1

-- the same of all atoms of an expression, and of the bits of a part
abbrev pub NetIsThere : Netlist → Net → Type 0
NetIsThere d (net.Copy a) = IsThere d a
NetIsThere d (net.Not a) = IsThere d a
NetIsThere d (net.Two op a b) = IsThere d a × IsThere d b
NetIsThere d (net.Pick test a b) = IsThere d test × IsThere d a × IsThere d b
NetIsThere d (net.Join high low) = IsThere d high × IsThere d low
NetIsThere d (net.Part a high low) = (¬ IsConstant a) × IsThere d a × (high < 128) × (low ≤ high)
NetIsThere d (net.Word mem address) = (mem < length d.mems) × IsThere d address

-- an operand that has some width
abbrev HasWidth : Netlist → List Wire → Atom → Type 0
HasWidth d before a = (m : ℕ) × HasBits (widths_after d before) m a

operands : (d : Netlist) (before : List Wire) (op : Pair) (n : ℕ) (a b : Atom) → OperandsFit op n (λ m. HasBits (widths_after d before) m a) (λ m. HasBits (widths_after d before) m b) → HasWidth d before a × HasWidth d before b
operands d before pair.Add n a b h = ((n, h.0), (n, h.1))
operands d before pair.Sub n a b h = ((n, h.0), (n, h.1))
operands d before pair.Mul n a b h = ((n, h.0), (n, h.1))
operands d before pair.And n a b h = ((n, h.0), (n, h.1))
operands d before pair.Or n a b h = ((n, h.0), (n, h.1))
operands d before pair.Xor n a b h = ((n, h.0), (n, h.1))
operands d before pair.Equal n a b h = ((h.1.0, h.1.1), (h.1.0, h.1.2))
operands d before pair.Below n a b h = ((h.1.0, h.1.1), (h.1.0, h.1.2))
operands d before pair.Left n a b h = ((n, h.0), (h.1.0, h.1.1))
operands d before pair.Right n a b h = ((n, h.0), (h.1.0, h.1.1))

net_there : (d : Netlist) (before : List Wire) (n : ℕ) (x : Net) → length before ≤ length d.wires → AreNarrow d before → NetFits (widths_after d before) d.mems n x → NetIsThere d x
net_there d before n (net.Copy a) le all h = there d before n a le h
net_there d before n (net.Not a) le all h = there d before n a le h
net_there d before n (net.Two op a b) le all h =
    let both = operands d before op n a b h in (there d before both.0.0 a le both.0.1, there d before both.1.0 b le both.1.1)
net_there d before n (net.Pick test a b) le all h = (there d before 1 test le h.0, there d before n a le h.1, there d before n b le h.2)
net_there d before n (net.Join high low) le all h = (there d before h.0 high le h.2, there d before h.1 low le h.3)
net_there d before n (net.Part a high low) le all h =
    (h.0, there d before h.1.0 a le h.1.1, omega (arith, h.1.2, narrow d before h.1.0 a all h.1.1), h.1.3)
net_there d before n (net.Word mem address) le all h =
    (slice_get_within d.mems mem h.0 h.1, there d before h.0.depth_log address le h.2.wide)

pub record WireIsThere (d : Netlist) (w : Wire) : Type 0 where
  pub bits : IsBetween 1 128 w.bits
  pub net : NetIsThere d w.net

wires_there : (d : Netlist) (before ws : List Wire) → before ++ ws ≡ d.wires → AreNarrow d before → WiresFit d before ws → All (WireIsThere d) ws
wires_there d before [] e all h = All-nil (WireIsThere d)
wires_there d before (w ∷ ws) e all h =
    let few : length before ≤ length d.wires = omega (arith, ap length e, length-append before (w ∷ ws)) in
    All-cons (WireIsThere d) w ws (record { bits = h.0; net = net_there d before w.bits w.net few all h.1 })
    (wires_there d (before ++ w ∷ []) ws (append_assoc before (w ∷ []) ws ∙ e)
    (record { inputs = all.inputs; regs = all.regs; wires = All-push (λ (w : Wire). IsBetween 1 128 w.bits) before w all.wires h.0 }) h.2)

up_to_128 : (n : ℕ) → IsBetween 1 64 n → IsBetween 1 128 n
up_to_128 n h = (h.0, omega (arith, h.1))

pub all_wires_there : (d : Netlist) → IsValid d → All (WireIsThere d) d.wires
all_wires_there d v =
    wires_there d [] d.wires refl
    (record {
      inputs = All-weaker (λ (p : Pin). IsBetween 1 64 p.bits) (λ (p : Pin). IsBetween 1 128 p.bits) (λ p h. up_to_128 p.bits h) d.inputs v.inputs;
      regs = All-weaker (RegisterFits (widths d)) (λ (r : Reg). IsBetween 1 128 r.bits) (λ r h. up_to_128 r.bits h.bits) d.regs v.regs;
      wires = All-nil (λ (w : Wire). IsBetween 1 128 w.bits);
    })
    v.wires

-- an atom that some item of the circuit reads
pub atom_there : (d : Netlist) (n : ℕ) (a : Atom) → HasBits (widths d) n a → IsThere d a
atom_there d n a h = there d d.wires n a (omega arith) h

pub record PortIsThere (d : Netlist) (p : Port) : Type 0 where
  pub addr : IsThere d p.addr
  pub enable : IsThere d p.enable
  pub value : IsThere d p.value

pub record MemoryIsThere (d : Netlist) (m : Memory) : Type 0 where
  pub bits : IsBetween 1 64 m.bits
  pub depth : IsBetween 1 16 m.depth_log
  pub some : 0 < length m.ports
  pub ports : All (PortIsThere d) m.ports

pub all_memories_there : (d : Netlist) → IsValid d → All (MemoryIsThere d) d.mems
all_memories_there d v =
    All-weaker (MemoryFits (widths d)) (MemoryIsThere d)
    (λ m h. record {
      bits = h.bits;
      depth = h.depth;
      some = h.some;
      ports =
          All-weaker (PortFits (widths d) m) (PortIsThere d)
          (λ p f. record { addr = atom_there d m.depth_log p.addr f.addr; enable = atom_there d 1 p.enable f.enable; value = atom_there d m.bits p.value f.value })
          m.ports h.ports;
    })
    d.mems v.mems
