use Rattle.std.proofs.Common.{◌-◌, arith}
use Rattle.cosim_levels.specs.SoakProgram.{drawn, behind}
use Rattle.cosim_levels.proofs.Drawing.{drawn_more, behind_more, drawn_over, behind_over}
use Rattle.cosim_levels.proofs.program.drawn.Goals as goal

pub loop-preserved : goal.loop-preserved
loop-preserved c =
    let pushed = rw c.draw_below.ensures.value at c.in_ok-push.ensures.items in
    rw c.draw_below.ensures.after (
      drawn_more c.loop.draws.x c.args.count c.loop.counter c.loop.words.items c.push.new.self.items (drawn c.args.draws.now.x c.args.count) c.loop-test.true pushed c.loop.invariant.0,
      behind_more c.loop.draws.x c.args.count c.loop.counter (behind c.args.draws.now.x c.args.count) c.loop-test.true c.loop.invariant.1,
    )

pub returns-clause-drawn : goal.returns-clause-drawn
returns-clause-drawn c = drawn_over c.loop.draws.x (c.args.count - c.loop.counter) c.loop.words.items (drawn c.args.draws.now.x c.args.count) (omega arith) c.loop.invariant.0

pub returns-clause-after : goal.returns-clause-after
returns-clause-after c = behind_over c.loop.draws.x (c.args.count - c.loop.counter) (behind c.args.draws.now.x c.args.count) (omega arith) c.loop.invariant.1
