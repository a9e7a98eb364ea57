use Rattle.std.proofs.Common.{◌≡◌, ◌<◌, ℕ, Some}
use Rattle.std.specs.Prelude.{slice_get}
use Rattle.ir_core.specs.declared.cfg.Node.{Node}
use Rattle.ir_core.specs.declared.stamp.Untimed.{Untimed}
use Rattle.flat_programs.specs.Machine.Sizes.{FitsSizes, body_in}
use Rattle.flat_programs.proofs.machine.room.sizes_of.Given as goal

abbrev pub invariant-loop-node : goal.invariant-loop-node
invariant-loop-node l = (i : ℕ) (it : Node Untimed) → i < l.node-index → slice_get l.nodes i ≡ Some it → FitsSizes l.sizes (body_in it)
