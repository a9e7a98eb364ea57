use Rattle.std.proofs.Common.{◌∙◌, ap, sym}
use Rattle.ir_core.specs.Trees.{body_of}
use Rattle.ir_layout.specs.Nodes.{end_of, node_of}
use Rattle.op_chain.specs.Reads.{body_operands, end_operands, node_operands}
use Rattle.op_chain.specs.Views.{counted}
use Rattle.op_chain.proofs.Shown.{counted_append}
use Rattle.op_chain.proofs.reads.count_node.Goals as goal

pub returns-in-Plain : goal.returns-in-Plain
returns-in-Plain c =
    let block = c.in-Plain.block in
    c.count_end.ensures
    ∙ (ap (λ m. counted m (end_operands (end_of block.end))) c.count_body.ensures
    ∙ (sym (counted_append c.args.counts.now (body_operands (body_of block.body)) (end_operands (end_of block.end))) ∙ ap (λ n. counted c.args.counts.now (node_operands (node_of n))) (sym c.in-Plain.is)))
