use Rattle.std.proofs.Common.{◌≡◌, ◌∙◌, suc, ◌+◌, length, map, ap, sym, arith}
use Rattle.ir_layout.specs.Nodes.{node_of}
use Rattle.op_chain.specs.Subscripts.{variables_among, nodes_hand, reaching_within}
use Rattle.op_chain.proofs.Shown.{all_same, settled, next_round}
use Rattle.op_chain.proofs.subscripts.reaching_variables.Goals as goal

pub returns-then-eq : goal.returns-then-eq
returns-then-eq c =
    let i = c.loop-round._round in
    let nodes = map node_of c.args.nodes.now in
    let old = c.loop-round.reaching.items in
    let next = c.in_ok-next.next.items in
    let made = c.in_ok-next.ensures ∙ ap (λ r. variables_among 0 (length r) (nodes_hand r nodes)) c.as_slice.ensures.value in
    let is_next = next_round c.args.count i nodes old next c.loop-round.invariant made in
    let same = sym c.as_slice-in-loop-round.ensures.value ∙ (all_same c.as_slice-in-loop-round.result.now c.as_slice-in-loop-round-2.result.now (sym c.eq.ensures ∙ c.if-eq.true) ∙ c.as_slice-in-loop-round-2.ensures.value) in
    c.loop-round.invariant
    ∙ sym (settled c.args.count i c.args.count nodes (omega (arith, c.loop-round-test.true)) (sym is_next ∙ (same ∙ c.loop-round.invariant)))

pub loop-round-preserved : goal.loop-round-preserved
loop-round-preserved c =
    let i = c.loop-round._round in
    let nodes = map node_of c.args.nodes.now in
    let made = c.in_ok-next.ensures ∙ ap (λ r. variables_among 0 (length r) (nodes_hand r nodes)) c.as_slice.ensures.value in
    next_round c.args.count i nodes c.loop-round.reaching.items c.in_ok-next.next.items c.loop-round.invariant made
    ∙ ap (λ n. reaching_within c.args.count n nodes) (let e : suc i ≡ i + 1 = omega arith in e)
