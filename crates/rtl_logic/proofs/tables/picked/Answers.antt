use Rattle.std.proofs.Common.{◌≡◌, ◌/◌, length, subst, arith}
use Rattle.rtl_logic.specs.Making.{circuit}
use Rattle.rtl_logic.specs.Levels.{Halves}
use Rattle.rtl_logic.proofs.Leveling.{halves_more}
use Rattle.rtl_logic.proofs.tables.picked.Goals as goal

pub loop-k-preserved : goal.loop-k-preserved
loop-k-preserved c = λ n sound between test fits.
    halves_more (circuit c.args.logic.now) (circuit c.loop-k.logic) (circuit c.pick.new.self) n c.args.test c.args.level.now c.loop-k.above.items c.push.new.self.items c.loop-k.k c.in_ok-pick.field-0 (omega arith)
    c.in_ok-push.ensures.items test fits (c.loop-k.invariant n sound between test fits) (λ s t f g. c.in_ok-pick.ensures n s between t f g)

pub returns : goal.returns
returns c = λ n sound between test fits.
    let all : c.loop-k.k ≡ length c.args.level.now / 2 = omega arith in
    subst (λ k. Halves (circuit c.args.logic.now) (circuit c.loop-k.logic) n c.args.test c.args.level.now k c.loop-k.above.items) all (c.loop-k.invariant n sound between test fits)
