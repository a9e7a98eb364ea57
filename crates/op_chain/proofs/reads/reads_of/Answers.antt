use Rattle.std.proofs.Common.{◌≡◌, ◌∙◌, length, replicate, ap, sym, subst, arith}
use Rattle.ir_layout.specs.Nodes.{node_of}
use Rattle.op_chain.specs.Reads.{node_operands}
use Rattle.op_chain.specs.Views.{counted, ShowsReads}
use Rattle.op_chain.proofs.Shown.{written_back, reads_shown}
use Rattle.op_chain.proofs.reads.reads_of.Goals as goal

pub returns-clause-reads : goal.returns-clause-reads
returns-clause-reads c =
    let v = c.in_ok-counts.counts in
    let xs = node_operands (node_of c.args.node.now) in
    let zeros : v.items ≡ replicate c.args.count 0 = c.in_ok-counts.ensures.items_if_clones_equal (λ y e. e) in
    let own : length c.count_node.new.counts ≡ v.len = omega (arith, c.count_node.auto.counts, ap length c.deref_mut.ensures.value, v.ok.0) in
    let is_it = written_back v.len c.count_node.new.counts v.items own ∙ (c.count_node.ensures ∙ ap (λ m. counted m xs) (c.deref_mut.ensures.value ∙ zeros)) in
    subst (λ m. ShowsReads m xs) (sym is_it) (reads_shown c.args.count xs)
