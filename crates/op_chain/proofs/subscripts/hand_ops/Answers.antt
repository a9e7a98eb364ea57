use Rattle.std.proofs.Common.{◌≡◌, ◌<◌, ◌∙◌, suc, ◌-◌, false, length, map, drop, arith}
use Rattle.ir_core.specs.Bodies.{op_of}
use Rattle.op_chain.proofs.Shown.{default_same, ops_from, results_step, variables_step}
use Rattle.op_chain.proofs.subscripts.hand_ops.Goals as goal

pub loop-left-preserved : goal.loop-left-preserved
loop-left-preserved c =
    let left = c.loop-left.left in
    let k = left - 1 in
    let ops = c.args.ops.now in
    let x = c.index-ops-left.result in
    let place : left ≡ suc k = omega (arith, c.loop-left-test.true) in
    let low : k < length ops = omega (arith, c.loop-left-test.true, c.loop-left.invariant.within) in
    let marked : k < length c.loop-left.results = omega (arith, low, c.loop-left.auto.results, c.requires) in
    let front = ops_from ops k left x low place c.index-ops-left.is in
    record {
      within = omega (arith, c.loop-left.invariant.within);
      results = λ behind shows.
          let before = c.loop-left.invariant.results behind shows in
          results_step c.loop-left.results c.hand_op.new.results k left (op_of x) (map op_of (drop k ops)) (map op_of (drop left ops)) behind _ place front (default_same c.loop-left.results k _ false marked ∙ before k marked)
          c.hand_op.ensures.results before;
      variables = λ behind before shows also.
          let known = c.loop-left.invariant.results behind shows in
          variables_step c.loop-left.variables c.hand_op.new.variables before k left (op_of x) (map op_of (drop k ops)) (map op_of (drop left ops)) behind _ place front (default_same c.loop-left.results k _ false marked ∙ known k marked)
          c.hand_op.ensures.variables (c.loop-left.invariant.variables behind before shows also);
    }
