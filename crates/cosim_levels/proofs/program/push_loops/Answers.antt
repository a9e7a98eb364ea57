use Rattle.std.proofs.Common.{◌≡◌, ◌==◌, ◌%◌, ◌+◌, ◌-◌, ◌*◌, if◌then◌else◌, ap, arith}
use Rattle.std.specs.String.{string_bytes}
use Rattle.cosim_levels.specs.SoakProgram.{draw, behind, count_products}
use Rattle.cosim_levels.proofs.Drawing.{lines_more, behind_pair, products_more, lines_over, behind_over, products_over}
use Rattle.cosim_levels.proofs.program.push_loops.Goals as goal

pub loop-preserved : goal.loop-preserved
loop-preserved c =
    let x = c.loop.draws.x in
    let more : c.loop.muls + c.one_if-muls.result ≡ c.loop.muls + (if draw x % 6 == 2 then 1 else 0) = ap (λ n. c.loop.muls + n) (rw c.in_ok-product.ensures.product at c.one_if-muls.ensures.value) in
    rw c.in_ok-product.ensures.after (
      lines_more x 40 c.loop.counter (string_bytes c.loop.text) (string_bytes c.push_loop.new.text) _ c.loop-test.true c.in_ok-product.ensures.text c.loop.invariant.0,
      behind_pair x 40 c.loop.counter (behind c.args.draws.now.x 80) c.loop-test.true c.loop.invariant.1,
      products_more x 40 c.loop.counter c.loop.muls (c.loop.muls + c.one_if-muls.result) (count_products c.args.draws.now.x 40) c.loop-test.true more c.loop.invariant.2,
      omega (arith, c.one_if-muls.ensures.bound, c.loop.invariant.3),
    )

pub returns-clause-text : goal.returns-clause-text
returns-clause-text c = lines_over c.loop.draws.x (40 - c.loop.counter) (string_bytes c.loop.text) _ (omega arith) c.loop.invariant.0

pub returns-clause-after : goal.returns-clause-after
returns-clause-after c =
    let over : (40 - c.loop.counter) * 2 ≡ 0 = omega arith in
    behind_over c.loop.draws.x ((40 - c.loop.counter) * 2) (behind c.args.draws.now.x 80) over c.loop.invariant.1

pub returns-clause-products : goal.returns-clause-products
returns-clause-products c = products_over c.loop.draws.x (40 - c.loop.counter) c.loop.muls (count_products c.args.draws.now.x 40) (omega arith) c.loop.invariant.2
