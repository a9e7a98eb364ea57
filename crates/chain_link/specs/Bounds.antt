-- Bounds on the numbers of registers, memories and wires. They keep all sums of them far below 2^64.
use Rattle.std.specs.Prelude.{◌≡◌, ℕ, ◌+◌, ◌*◌, ◌^◌, ◌<◌, ◌≤◌, length}
use Rattle.std.specs.List.{All}
use Rattle.rtl_core.specs.declared.design.Atom.{Atom}
use Rattle.rtl_core.specs.declared.design.Atom.TheVariants as atom
use Rattle.rtl_core.specs.declared.design.Net.{Net}
use Rattle.rtl_core.specs.declared.design.Net.TheVariants as net
use Rattle.rtl_core.specs.declared.design.Wire.{Wire}
use Rattle.rtl_core.specs.declared.design.Reg.{Reg}
use Rattle.rtl_core.specs.declared.design.Port.{Port}
use Rattle.rtl_core.specs.declared.design.OutPin.{OutPin}
use Rattle.rtl_core.specs.Netlist.{Netlist}
use Rattle.chain_link.specs.declared.numbers.Sizes.{Sizes}
use Rattle.chain_link.specs.declared.numbers.Queue.{Queue}
use Rattle.chain_link.specs.declared.placing.Spot.{Spot}

-- ---- parts

-- one of fewer than 2^57 registers or wires
abbrev pub IsNear : Atom → Type 0
IsNear (atom.Constant bits value) = Unit {0}
IsNear (atom.Input k) = Unit {0}
IsNear (atom.Reg k) = k < 2 ^ 57
IsNear (atom.Wire k) = k < 2 ^ 57

-- all atoms are near, and the memory is the first one
abbrev pub NetIsNear : Net → Type 0
NetIsNear (net.Copy a) = IsNear a
NetIsNear (net.Not a) = IsNear a
NetIsNear (net.Two op a b) = IsNear a × IsNear b
NetIsNear (net.Pick test a b) = IsNear test × IsNear a × IsNear b
NetIsNear (net.Join high low) = IsNear high × IsNear low
NetIsNear (net.Part a high low) = IsNear a
NetIsNear (net.Word mem address) = (mem ≡ 0) × IsNear address

abbrev pub WireIsNear : Wire → Type 0
WireIsNear w = NetIsNear w.net

pub record RegisterIsNear (r : Reg) : Type 0 where
  pub enable : IsNear r.enable
  pub next : IsNear r.next

pub record PortIsNear (p : Port) : Type 0 where
  pub addr : IsNear p.addr
  pub enable : IsNear p.enable
  pub value : IsNear p.value

abbrev pub OutputIsNear : OutPin → Type 0
OutputIsNear o = IsNear o.from

-- A stage in memory: an item of its lists takes at least 64 bytes.
pub record IsSmall (d : Netlist) : Type 0 where
  pub wires : length d.wires < 2 ^ 57
  pub regs : length d.regs < 2 ^ 57
  pub outputs : length d.outputs < 2 ^ 57
  pub near_wires : All WireIsNear d.wires
  pub near_regs : All RegisterIsNear d.regs
  pub near_outputs : All OutputIsNear d.outputs

-- ---- places

-- after at most 16 stages
pub record HasRoom (s : Sizes) : Type 0 where
  pub regs : s.regs ≤ 2 ^ 63 + 2 ^ 59
  pub mems : s.mems ≤ 2 ^ 16
  pub wires : s.wires ≤ 2 ^ 63 + 2 ^ 59

abbrev pub IsEarly : Queue → Type 0
IsEarly q = q.front ≤ 2 ^ 63 + 2 ^ 59

-- the place of a part after them
pub record SpotHasRoom (x : Spot) : Type 0 where
  pub regs : x.regs ≤ 2 ^ 63 + 2 ^ 60
  pub mems : x.mems ≤ 2 ^ 17
  pub wires : x.wires ≤ 2 ^ 63 + 2 ^ 60

-- after k stages
pub record IsWithin (k : ℕ) (s : Sizes) (q : Queue) : Type 0 where
  pub regs : s.regs ≤ k * 2 ^ 59
  pub mems : s.mems ≤ k
  pub wires : s.wires ≤ 8 + k * 2 ^ 59
  pub front : q.front ≤ 8 + k * 2 ^ 59
