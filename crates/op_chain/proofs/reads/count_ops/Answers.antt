use Rattle.std.proofs.Common.{◌≡◌, ◌∙◌, ◌++◌, suc, ◌+◌, map, drop, ap, sym, arith}
use Rattle.std.specs.Option.{option_to_list}
use Rattle.ir_core.specs.Bodies.{op_of}
use Rattle.op_chain.specs.Reads.{ops_operands}
use Rattle.op_chain.specs.Views.{counted}
use Rattle.op_chain.proofs.Shown.{counted_append, ops_from}
use Rattle.op_chain.proofs.reads.count_ops.Goals as goal

pub loop-op-preserved : goal.loop-op-preserved
loop-op-preserved c =
    let k = c.loop-op.op-index in
    let ops = c.args.ops.now in
    let x = c.op-item.result in
    let rest = ops_operands (map op_of (drop (k + 1) ops)) in
    let front = ops_from ops k (k + 1) x c.loop-op-test.true (let e : k + 1 ≡ suc k = omega arith in e) c.op-item.is in
    let one : c.count_optional.new.counts ≡ counted (counted c.loop-op.counts x.args.items) (option_to_list x.guard) =
    c.count_optional.ensures ∙ ap (λ m. counted m (option_to_list x.guard)) (c.count_all.ensures ∙ ap (counted c.loop-op.counts) c.as_slice.ensures) in
    ap (λ m. counted m rest) (one ∙ sym (counted_append c.loop-op.counts x.args.items (option_to_list x.guard)))
    ∙ (sym (counted_append c.loop-op.counts (x.args.items ++ option_to_list x.guard) rest) ∙ (ap (λ l. counted c.loop-op.counts (ops_operands l)) (sym front) ∙ c.loop-op.invariant))
