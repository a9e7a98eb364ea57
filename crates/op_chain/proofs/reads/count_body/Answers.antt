use Rattle.std.proofs.Common.{◌≡◌, ◌∙◌, ◌++◌, map, ap, sym}
use Rattle.std.specs.Option.{option_to_list}
use Rattle.ir_core.specs.Bodies.{op_of}
use Rattle.op_chain.specs.Reads.{ops_operands, out_operands}
use Rattle.op_chain.specs.Views.{counted}
use Rattle.op_chain.proofs.Shown.{counted_append}
use Rattle.op_chain.proofs.reads.count_body.Goals as goal

pub returns : goal.returns
returns c =
    let body = c.args.body.now in
    let ops = ops_operands (map op_of body.ops.items) in
    let outs = out_operands body.outs.items in
    let test = option_to_list body.test in
    let first : c.count_ops.new.counts ≡ counted c.args.counts.now ops = c.count_ops.ensures ∙ ap (λ l. counted c.args.counts.now (ops_operands (map op_of l))) c.as_slice.ensures.value in
    let second : c.count_outs.new.counts ≡ counted c.count_ops.new.counts outs = c.count_outs.ensures ∙ ap (λ l. counted c.count_ops.new.counts (out_operands l)) c.as_slice-2.ensures.value in
    c.count_optional.ensures
    ∙ (ap (λ m. counted m test) (second ∙ ap (λ m. counted m outs) first)
    ∙ (sym (counted_append (counted c.args.counts.now ops) outs test) ∙ sym (counted_append c.args.counts.now ops (outs ++ test))))
