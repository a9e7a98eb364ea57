use Rattle.std.proofs.Common.{◌≡◌, ℕ, slice_get, Some, ◌<◌}
use Rattle.ir_core.specs.declared.cfg.Node.{Node}
use Rattle.ir_core.specs.declared.timed.Timed.{Timed}
use Rattle.ir_core.specs.Small.{IsSmallNode}
use Rattle.ir_core.proofs.numbers.numbers_are_small.Given as goal

abbrev pub invariant-loop-node : goal.invariant-loop-node
invariant-loop-node l = (i : ℕ) (n : Node Timed) → i < l.node-index → slice_get l.fn.cfg.nodes.items i ≡ Some n → IsSmallNode n
