use Rattle.std.proofs.Common.{◌≤◌, List, ℕ, length, sym, ap, ◌∙◌, subst}
use Rattle.std.specs.Prelude.{fold, max}
use Rattle.std.proofs.lemmas.List.{take_all}
use Rattle.ir_core.specs.declared.cfg.Node.{Node}
use Rattle.ir_core.specs.declared.timed.Timed.{Timed}
use Rattle.clock_ir.specs.ClockRuns.{TimedProgram, timed_node}
use Rattle.datapath.specs.Control.{wait_as}
use Rattle.datapath.proofs.Programs.{greatest_waits}
use Rattle.datapath.proofs.plan_sizes.sizes.greatest_wait.Goals as goal

pub returns : goal.returns
returns c = λ p e.
    let nodes = c.args.cfg.now.nodes.items in
    let over : List (Node Timed) → ℕ = fold (λ t (n : Node Timed). max t (wait_as (timed_node n))) 0 in
    let all : length nodes ≤ c.loop-node.node-index = subst (λ (ns : List (Node Timed)). length ns ≤ c.loop-node.node-index) c.deref-node-items.ensures.value c.loop-node-test.false in
    c.loop-node.invariant ∙ ap over (take_all c.loop-node.node-index nodes all) ∙ sym (greatest_waits p nodes (ap (λ (q : TimedProgram). q.nodes) e))
