use Rattle.std.proofs.Common.{◌∙◌, map, length, [], ◌∷◌, sym, ap, arith}
use Rattle.std.proofs.lemmas.List.{map-append}
use Rattle.circuit_context.specs.Counting.{ops_in, tables_in}
use Rattle.circuit_context.proofs.Loading.{ports_length}
use Rattle.circuit_context.proofs.Reaching.{nodes_more, reaches_as, row_is, rows_more}
use Rattle.circuit_context.proofs.ports.ports_in.Goals as goal

pub reach_all-requires : goal.reach_all-requires
reach_all-requires c =
    ap length c.deref.ensures.value ∙ (ap length c.in_ok-row.ensures ∙ ports_length (tables_in c.args.memories.now) c.span.result c.ops_of.result.now [] c.ops_of.result.now)
    ∙ ap length (c.ops_of.ensures ∙ sym c.ops_of-in-loop-node.ensures)

pub loop-node-preserved : goal.loop-node-preserved
loop-node-preserved c =
    let tables = tables_in c.args.memories.now in
    let nodes = c.args.nodes.now in
    let k = c.loop-node.node-index in
    let n = c.node-item.result in
    let row = c.in_ok-row.row.items in
    let own = row_is tables n c.span.result c.ops_of.result.now row c.span.ensures.value c.ops_of.ensures c.in_ok-row.ensures in
    let was = c.loop-node.invariant in
    let rises = reaches_as c.loop-node.counts.items c.reach_all.new.counts.items c.ops_of-in-loop-node.result.now (ops_in n) c.deref.result.now row c.ops_of-in-loop-node.ensures c.deref.ensures.value
    c.in_ok-reach_all.ensures in
    record {
      numbers = rows_more tables nodes (map (λ r. r.items) c.loop-node.numbers.items) (map (λ r. r.items) c.push.new.self.items) row k n (omega arith) c.node-item.is own was.numbers
          (ap (map (λ r. r.items)) c.in_ok-push.ensures.items ∙ map-append (λ r. r.items) c.loop-node.numbers.items (c.in_ok-row.row ∷ []));
      count = rises.count ∙ was.count;
      counts = nodes_more tables c.loop-node.counts.items c.reach_all.new.counts.items nodes row k n (omega arith) c.node-item.is own rises was.counts;
    }
