-- What a report says of a program with times and of its circuit.
use Rattle.std.specs.Prelude.{◌≡◌, ℕ, ◌≤◌, max, true, List, [], map, length}
use Rattle.std.specs.List.{All, Contains}
use Rattle.hls_base.specs.declared.point.Point.{Point}
use Rattle.hls_base.specs.declared.settings.Settings.{Settings}
use Rattle.hls_base.specs.declared.settings.Units.{Units}
use Rattle.hls_base.specs.Tallies.{count_in}
use Rattle.ir_core.specs.declared.cfg.Cfg.{Cfg}
use Rattle.ir_core.specs.declared.cfg.Node.{Node}
use Rattle.ir_core.specs.declared.stamp.Untimed.{Untimed}
use Rattle.ir_lower.specs.Frames.{frame_view}
use Rattle.ir_core.specs.declared.timed.Timed.{Timed}
use Rattle.rtl_core.specs.Netlist.{Netlist}
use Rattle.cycle_report.specs.FormulaValue.{cycles}
use Rattle.cycle_report.specs.PlainReport.{PlainLoop, PlainReport}
use Rattle.report_rows.specs.Costs.{AreRowsOf, node_point}
use Rattle.report_rows.specs.Initial.{initial_cycles, AreAddressed}
use Rattle.report_rows.specs.Resources.{shape_of, row_shape, declared_names, built_units}
use Rattle.report_rows.specs.Timing.{AreTimedAs}

-- the units that the settings allow
abbrev pub allowed_units : Settings → Units
allowed_units settings = record { mul = settings.mul; div = settings.div; ports = settings.ports }

-- The program with times, and the rows of its loops.
pub record IsTimed (units : Units) (untimed : Cfg Untimed) (timed : Cfg Timed) (rows : List PlainLoop) : Type 0 where
  pub frame : frame_view timed.frame ≡ frame_view untimed.frame
  pub first : timed.first ≡ untimed.first
  pub nodes : AreTimedAs untimed.frame.memories.items units untimed.nodes.items timed.nodes.items rows

-- a run that comes to the point of a node takes a cycle at least, beside the first
abbrev pub EachNodeCounts : List (Node Timed) → PlainReport → Type 0
EachNodeCounts nodes report =
    (node : Node Timed) (tally : List (Point × ℕ)) → Contains nodes node → 1 ≤ count_in tally (node_point node) → 2 ≤ cycles report.base report.rows tally

-- the report names what the circuit is built of, and what was asked for
pub record ReportsDesign (report : PlainReport) (settings : Settings) (design : Netlist) : Type 0 where
  pub settings_are : report.settings ≡ settings
  pub units : report.units ≡ built_units design
  pub memories : map row_shape report.memories ≡ map shape_of design.mems
  pub registers : report.registers ≡ length design.regs

-- The report gives the cycles of the program with these times, names its memories as the program does, and names what the circuit is built of and what was asked for.
pub record IsReportOf (report : PlainReport) (settings : Settings) (timed : Cfg Timed) (design : Netlist) : Type 0 where
  pub base : report.base ≡ 1
  pub rows : AreRowsOf timed.nodes.items report.rows
  pub init : AreAddressed timed.frame.memories.items → report.init ≡ initial_cycles timed.frame
  pub names : map (λ m. m.name) report.memories ≡ declared_names timed.frame.memories.items
  pub built : ReportsDesign report settings design

-- Of each width there are no more multipliers and dividers than the settings allow, and no memory has more ports, where 0 allows one. Where they are plain no loop is overlapped.
pub record KeepsSettings (report : PlainReport) (settings : Settings) : Type 0 where
  pub mul32 : report.units.mul32 ≤ max 1 settings.mul
  pub mul64 : report.units.mul64 ≤ max 1 settings.mul
  pub div32 : report.units.div32 ≤ max 1 settings.div
  pub div64 : report.units.div64 ≤ max 1 settings.div
  pub ports : All (λ m. m.ports ≤ max 1 settings.ports) report.memories
  pub plain : settings.plain ≡ true → report.loops ≡ []
