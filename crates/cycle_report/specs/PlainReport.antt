-- A report as the values that it lists, without the room and the owner of its vectors.
use Rattle.std.specs.Prelude.{ℕ, List, map}
use Rattle.hls_base.specs.declared.point.Point.{Point}
use Rattle.hls_base.specs.declared.settings.Settings.{Settings}
use Rattle.cycle_report.specs.declared.report.Cost.{Cost}
use Rattle.cycle_report.specs.declared.report.Edge4.{Edge4}
use Rattle.cycle_report.specs.declared.report.LoopRow.{LoopRow}
use Rattle.cycle_report.specs.declared.report.MemoryRow.{MemoryRow}
use Rattle.cycle_report.specs.declared.report.Report.{Report}

pub record PlainLoop : Type 0 where
  pub point : Point
  pub ii : ℕ
  pub exit : ℕ
  pub cycle : List Edge4

pub record PlainUnits : Type 0 where
  pub mul32 : ℕ
  pub mul64 : ℕ
  pub div32 : ℕ
  pub div64 : ℕ

pub record PlainReport : Type 0 where
  pub settings : Settings
  pub base : ℕ
  pub init : ℕ
  pub rows : List Cost
  pub loops : List PlainLoop
  pub units : PlainUnits
  pub memories : List MemoryRow
  pub registers : ℕ

abbrev pub loop_of : LoopRow → PlainLoop
loop_of l = record { point = l.point; ii = l.ii; exit = l.exit; cycle = l.cycle.items }

abbrev pub units_of : Report → PlainUnits
units_of r = record { mul32 = r.mul32; mul64 = r.mul64; div32 = r.div32; div64 = r.div64 }

abbrev pub plain_of : Report → PlainReport
plain_of r = record {
  settings = r.settings;
  base = r.formula.base;
  init = r.init;
  rows = r.formula.rows.items;
  loops = map loop_of r.loops.items;
  units = units_of r;
  memories = r.memories.items;
  registers = r.registers;
}
