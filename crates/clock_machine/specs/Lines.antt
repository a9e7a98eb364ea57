-- Well timed programs are orderly.
pub mod Agendas
pub mod Reads
pub mod Registers
pub mod Stages
pub mod Forms
pub mod Regions
pub mod Showing
use Rattle.std.specs.Prelude.{◌≡◌, ℕ, slice_get, Some, None}
use Rattle.ir_core.specs.declared.cfg.Cfg.{Cfg}
use Rattle.ir_core.specs.declared.cfg.Node.{Node}
use Rattle.ir_core.specs.declared.cfg.Node.TheVariants as node
use Rattle.ir_core.specs.declared.stamp.Untimed.{Untimed}
use Rattle.ir_core.specs.declared.timed.Timed.{Timed}
use Rattle.clock_ir.specs.WellTimed.{IsWellTimed}
use Rattle.clock_machine.specs.Lines.Regions.{IsOrderlyProgram}

-- a block has no test
abbrev pub IsUntestedNode : Node Untimed → Type 0
IsUntestedNode (node.Plain block) = block.body.test ≡ None
IsUntestedNode (node.Looped region) = Unit {0}

abbrev pub WellTimedIsOrderly : Type 0
WellTimedIsOrderly = (cfg : Cfg Untimed) (timed : Cfg Timed) → ((k : ℕ) (it : Node Untimed) → slice_get cfg.nodes.items k ≡ Some it → IsUntestedNode it) → IsWellTimed cfg timed → IsOrderlyProgram timed
