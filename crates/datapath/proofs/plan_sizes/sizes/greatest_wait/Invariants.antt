use Rattle.std.proofs.Common.{◌≡◌, take}
use Rattle.std.specs.Prelude.{fold, max, ℕ}
use Rattle.ir_core.specs.declared.cfg.Node.{Node}
use Rattle.ir_core.specs.declared.timed.Timed.{Timed}
use Rattle.clock_ir.specs.ClockRuns.{timed_node}
use Rattle.datapath.specs.Control.{wait_as}
use Rattle.datapath.proofs.plan_sizes.sizes.greatest_wait.Given as goal

abbrev pub invariant-loop-node : goal.invariant-loop-node
invariant-loop-node l = l.greatest ≡ fold (λ (t : ℕ) (n : Node Timed). max t (wait_as (timed_node n))) 0 (take l.node-index l.cfg.nodes.items)
