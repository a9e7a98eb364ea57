-- What a circuit is built of, as a report names it.
use Rattle.std.specs.Prelude.{◌≡◌, ℕ, ◌^◌, ◌<◌, ◌≤◌, not, is_some, List, map, length}
use Rattle.std.specs.List.{All, filter}
use Rattle.ir_core.specs.declared.cfg.Memory.{Memory as DeclaredMemory}
use Rattle.ir_core.specs.declared.cfg.Cfg.{Cfg}
use Rattle.ir_core.specs.declared.timed.Timed.{Timed}
use Rattle.rtl_core.specs.declared.design.Design.{Design}
use Rattle.rtl_core.specs.declared.design.Mem.{Mem}
use Rattle.rtl_core.specs.Netlist.{Netlist, Memory}
use Rattle.rtl_core.specs.Resources.{multipliers, dividers}
use Rattle.cycle_report.specs.declared.report.MemoryRow.{MemoryRow}
use Rattle.cycle_report.specs.PlainReport.{PlainUnits}

-- the bits of a memory's words, how many there are, and how many ports it has
pub record Shape : Type 0 where
  pub bits : ℕ
  pub depth : ℕ
  pub ports : ℕ

abbrev pub shape_of : Memory → Shape
shape_of m = record { bits = m.bits; depth = 2 ^ m.depth_log; ports = length m.ports }

abbrev pub row_shape : MemoryRow → Shape
row_shape m = record { bits = m.bits; depth = m.depth; ports = m.ports }

-- the names of the memories that are no tables, in order
abbrev pub declared_names : List DeclaredMemory → List (List ℕ)
declared_names memories = map (λ m. m.name) (filter (λ m. not (is_some m.table)) memories)

-- a memory of at most 2^16 words and 255 ports
pub record FitsRow (m : Mem) : Type 0 where
  pub depth : m.depth_log ≤ 16
  pub ports : length m.ports.items < 2 ^ 8

-- Memories of a circuit that fit into rows, as many as the program has names for.
pub record HasRows (declared : List DeclaredMemory) (built : List Mem) : Type 0 where
  pub fit : All FitsRow built
  pub count : length (declared_names declared) ≡ length built

-- fewer than 2^31 nodes, and memories that fit into rows
pub record IsReportable (timed : Cfg Timed) (design : Design) : Type 0 where
  pub few : length timed.nodes.items < 2 ^ 31
  pub memories : HasRows timed.frame.memories.items design.mems.items

abbrev pub built_units : Netlist → PlainUnits
built_units d = record { mul32 = multipliers 32 d; mul64 = multipliers 64 d; div32 = dividers 32 d; div64 = dividers 64 d }
