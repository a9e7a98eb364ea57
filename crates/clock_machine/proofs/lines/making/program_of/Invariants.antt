use Rattle.std.proofs.Common.{◌≡◌, ℕ, length, slice_get, Some}
use Rattle.ir_core.specs.declared.cfg.Node.{Node}
use Rattle.ir_core.specs.declared.timed.Timed.{Timed}
use Rattle.clock_ir.specs.ClockRuns.{timed_node}
use Rattle.clock_machine.specs.declared.lines.program.Stage.{Stage}
use Rattle.clock_machine.specs.Lines.Forms.{IsStageOf}
use Rattle.clock_machine.specs.Lines.Regions.{IsOrderlyProgram}
use Rattle.clock_machine.proofs.lines.making.program_of.Given as goal

abbrev pub invariant-loop-node : goal.invariant-loop-node
invariant-loop-node l = (length l.stages.items ≡ l.node-index) × (IsOrderlyProgram l.cfg → (k : ℕ) (n : Node Timed) (s : Stage) → slice_get l.cfg.nodes.items k ≡ Some n → slice_get l.stages.items k ≡ Some s → IsStageOf l.cfg.frame.variables.items (timed_node n) s)
