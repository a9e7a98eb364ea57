use Rattle.std.proofs.Common.{◌≡◌, ◌≤◌, ◌<◌, ◌+◌, ◌++◌, List, [], ◌∷◌, length, map, take, slice_get, slice_index_or, Some, sym, ap, ◌∙◌, subst, arith}
use Rattle.std.proofs.lemmas.List.{take_all, take_more, length-take-le, map-append}
use Rattle.std.proofs.lemmas.Option.{slice_get-get_or}
use Rattle.ir_core.specs.declared.cfg.Node.{Node}
use Rattle.rtl_logic.specs.Making.{circuit}
use Rattle.ir_core.specs.declared.timed.Timed.{Timed}
use Rattle.datapath.specs.Plans.{Plan}
use Rattle.circuit_units.specs.Demands.Collected.{AreOpsOf, CollectsNodes}
use Rattle.circuit_units.proofs.DemandsLemmas.Collecting.{no_nodes, node_ops, one_node, all_logged}
use Rattle.circuit_units.proofs.demands.demands.collect.Goals as goal

pub returns-clause-logs : goal.returns-clause-logs
returns-clause-logs c = λ p names context begun.
    let nodes = c.args.of.now.cfg.now.nodes.items in
    let rows = map (λ row. row.items) c.loop-number.wires.items in
    let all : length nodes ≤ c.loop-number.number = subst (λ (ns : List (Node Timed)). length ns ≤ c.loop-number.number) c.deref-node-items.ensures.value c.loop-number-test.false in
    let e = circuit c.loop-number.logic in
    all_logged p names (circuit c.args.logic.now) e c.args.log.now.pushes.items c.loop-number.log.pushes.items nodes rows (ap (λ (q : Plan). q.program.nodes) context.plan)
    (subst (λ ns. CollectsNodes p names (circuit c.args.logic.now) e c.args.log.now.pushes.items c.loop-number.log.pushes.items ns rows) (take_all c.loop-number.number nodes all)
    (c.loop-number.invariant p names context begun))

pub returns-clause-computed : goal.returns-clause-computed
returns-clause-computed c = λ p names context begun i k a is. (c.loop-number.invariant p names context begun).wires_ i k a is

pub loop-number-preserved : goal.loop-number-preserved
loop-number-preserved c = λ p names context begun.
    let nodes = c.args.of.now.cfg.now.nodes.items in
    let k = c.loop-number.number in
    let node = c.node-item.result in
    let name = c.node_named-name.result.0 in
    let ops = c.ops_of.result.now in
    let rows = map (λ row. row.items) c.loop-number.wires.items in
    let wires = c.in_ok-collect_node.field-0 in
    let inside : k < length nodes = subst (λ (ns : List (Node Timed)). k < length ns) c.deref-node-items.ensures.value c.loop-number-test.true in
    let node_is : node ≡ slice_index_or nodes k node = rw c.deref-node-items.ensures.value at c.node-item.is in
    let stands : slice_get nodes k ≡ Some node = slice_get-get_or nodes k node inside ∙ ap Some (sym node_is) in
    let took : take (k + 1) nodes ≡ take k nodes ++ node ∷ [] = take_more nodes k node inside ∙ ap (λ x. take k nodes ++ x ∷ []) (sym node_is) in
    let number : k ≡ length (take k nodes) = omega (arith, length-take-le k nodes (omega (arith, inside))) in
    let before = c.loop-number.invariant p names context begun in
    let are : AreOpsOf p name ops = subst (λ i. AreOpsOf p i ops) (sym c.node_named-name.ensures) (node_ops p names c.args.of.now k node ops context stands c.ops_of.ensures.ops c.ops_of.ensures.units) in
    let one = c.in_ok-collect_node.ensures p names context before.logs.begun are in
    let pushed = ap (map (λ row. row.items)) c.in_ok-push.ensures.items ∙ map-append (λ row. row.items) c.loop-number.wires.items (wires ∷ []) in
    one_node p names (circuit c.args.logic.now) (circuit c.loop-number.logic) (circuit c.collect_node.new.logic) c.args.log.now.pushes.items c.loop-number.log.pushes.items c.collect_node.new.log.pushes.items
    name (take k nodes) (take (k + 1) nodes) node ops rows (map (λ row. row.items) c.push.new.self.items) wires.items before (c.node_named-name.ensures ∙ number) took c.ops_of.ensures.ops one pushed

pub node_named-name-requires : goal.node_named-name-requires
node_named-name-requires c =
    let nodes = c.args.of.now.cfg.now.nodes.items in
    let k = c.loop-number.number in
    let inside : k < length nodes = subst (λ (ns : List (Node Timed)). k < length ns) c.deref-node-items.ensures.value c.loop-number-test.true in
    omega (arith, inside, c.args.of.now.few.nodes)

pub collect_node-requires : goal.collect_node-requires
collect_node-requires c =
    let nodes = c.args.of.now.cfg.now.nodes.items in
    let k = c.loop-number.number in
    let node = c.node-item.result in
    let inside : k < length nodes = subst (λ (ns : List (Node Timed)). k < length ns) c.deref-node-items.ensures.value c.loop-number-test.true in
    let node_is : node ≡ slice_index_or nodes k node = rw c.deref-node-items.ensures.value at c.node-item.is in
    let stands : slice_get nodes k ≡ Some node = slice_get-get_or nodes k node inside ∙ ap Some (sym node_is) in
    record { node = node; stands = ap (slice_get nodes) c.node_named-name.ensures ∙ stands; are = c.ops_of.ensures.own }

pub loop-number-init : goal.loop-number-init
loop-number-init c = λ p names context begun.
    let d = circuit c.args.logic.now in
    let l = c.args.log.now.pushes.items in
    subst (CollectsNodes p names d d l l []) (sym (ap (map (λ row. row.items)) c.in_ok-wires.ensures.items)) (no_nodes p names d l begun)
