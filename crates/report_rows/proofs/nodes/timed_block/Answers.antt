use Rattle.std.proofs.Common.{◌≡◌, ℕ, ◌+◌, List, length, filter, sym, subst, ◌∙◌}
use Rattle.std.specs.Prelude.{◌==◌}
use Rattle.std.specs.List.{All}
use Rattle.std.proofs.lemmas.List.Elements.{All-filter}
use Rattle.dep_graph.specs.declared.edge.Edge.{Edge}
use Rattle.dep_graph.specs.ForwardBodies.{IsForwardEdge}
use Rattle.report_rows.proofs.Loops.{block_made}
use Rattle.report_rows.proofs.nodes.timed_block.Goals as goal

pub returns : goal.returns
returns c =
    block_made c.args.memories.now c.args.units c.args.block.now c.in_ok-timed.timed c.in_ok-all.all.items c.in_ok-within.within.items c.as_slice-constraints.result.now c.in_ok-binding.binding
    c.in_ok-all.ensures.all (rw (c.as_slice.ensures.value) at c.in_ok-within.ensures) c.as_slice-constraints.ensures.value c.in_ok-binding.ensures.bound c.in_ok-timed.ensures

-- the edges within an iteration are some of all edges
near_forward : (nodes : ℕ) (all within read : List Edge) → All (IsForwardEdge nodes) all → within ≡ filter (λ (e : Edge). e.distance == 0) all → read ≡ within → All (IsForwardEdge nodes) read
near_forward nodes all within read forward near same = subst (All (IsForwardEdge nodes)) (sym (same ∙ near)) (All-filter (λ (e : Edge). e.distance == 0) (IsForwardEdge nodes) all forward)

pub bind-requires-clause-edges : goal.bind-requires-clause-edges
bind-requires-clause-edges c =
    near_forward (length c.args.block.now.body.ops.items + 1) c.in_ok-all.all.items c.in_ok-within.within.items c.as_slice-constraints.result.now c.in_ok-all.ensures.forward (rw (c.as_slice.ensures.value) at c.in_ok-within.ensures) c.as_slice-constraints.ensures.value

pub schedule-requires-clause-edges : goal.schedule-requires-clause-edges
schedule-requires-clause-edges c =
    near_forward (length c.args.block.now.body.ops.items + 1) c.in_ok-all.all.items c.in_ok-within.within.items c.as_slice-constraints.result.now c.in_ok-all.ensures.forward (rw (c.as_slice.ensures.value) at c.in_ok-within.ensures) c.as_slice-constraints.ensures.value
