use Rattle.std.proofs.Common.{◌≡◌, ◌-◌, take}
use Rattle.std.specs.Prelude.{fold, max, ℕ}
use Rattle.ir_core.specs.declared.cfg.Node.{Node}
use Rattle.ir_core.specs.declared.timed.Timed.{Timed}
use Rattle.clock_ir.specs.ClockRuns.{timed_node}
use Rattle.datapath.specs.Plans.{body_of}
use Rattle.datapath.proofs.plan_sizes.sizes.greatest_time.Given as goal

abbrev pub invariant-loop-node : goal.invariant-loop-node
invariant-loop-node l =
    l.greatest ≡ fold (λ (t : ℕ) (n : Node Timed). max t (max 1 (body_of (timed_node n)).interval - 1)) l.initial.greatest (take l.node-index l.cfg.nodes.items)
