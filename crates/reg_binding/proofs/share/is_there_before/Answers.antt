use Rattle.std.proofs.Common.{arith}
use Rattle.std.proofs.lemmas.Bool.{lt-ltb, ltb-true}
use Rattle.reg_binding.proofs.Meeting.{there_first, there_long}
use Rattle.reg_binding.proofs.share.is_there_before.Goals as goal

pub returns-then-life-gt0 : goal.returns-then-life-gt0
returns-then-life-gt0 c =
    let life = c.args.life.now in
    let time = c.args.time in (
      λ lt. there_first c.args.period life time c.if-life-gt0.true (ltb-true life.start time lt),
      λ found. lt-ltb life.start time (there_long c.args.period life time (omega (arith, c.if-min-gt0.false, c.min.ensures)) found.0 found.1 found.2),
    )
