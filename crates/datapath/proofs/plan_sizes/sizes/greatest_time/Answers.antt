use Rattle.std.proofs.Common.{◌≡◌, ◌-◌, ◌≤◌, List, ℕ, length, sym, ap, ◌∙◌, subst, arith}
use Rattle.std.specs.Prelude.{fold, max}
use Rattle.std.proofs.lemmas.List.{take_all}
use Rattle.ir_core.specs.declared.cfg.Node.{Node}
use Rattle.ir_core.specs.declared.timed.Timed.{Timed}
use Rattle.clock_ir.specs.ClockRuns.{TimedProgram, timed_node}
use Rattle.datapath.specs.Plans.{initial_cycles, body_of}
use Rattle.datapath.proofs.Programs.{greatest_times}
use Rattle.datapath.proofs.plan_sizes.sizes.greatest_time.Goals as goal

pub returns : goal.returns
returns c = λ p e m k small.
    let nodes = c.args.cfg.now.nodes.items in
    let over : ℕ → List (Node Timed) → ℕ = fold (λ t (n : Node Timed). max t (max 1 (body_of (timed_node n)).interval - 1)) in
    let all : length nodes ≤ c.loop-node.node-index = subst (λ (ns : List (Node Timed)). length ns ≤ c.loop-node.node-index) c.deref-node-items.ensures.value c.loop-node-test.false in
    let first : c.saturating_sub-greatest.result ≡ initial_cycles p - 1 = omega (arith, c.saturating_sub-greatest.ensures, c.initial_cycles.ensures p m k, small) in
    c.loop-node.invariant ∙ ap (over c.saturating_sub-greatest.result) (take_all c.loop-node.node-index nodes all) ∙ ap (λ from. over from nodes) first
    ∙ sym (greatest_times p nodes (ap (λ (q : TimedProgram). q.nodes) e))
