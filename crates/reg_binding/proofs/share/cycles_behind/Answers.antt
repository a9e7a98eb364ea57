use Rattle.std.proofs.Common.{◌+◌, ◌/◌}
use Rattle.std.proofs.lemmas.Nat.{mod_below}
use Rattle.reg_binding.proofs.Meeting.{ahead_of, ahead_next}
use Rattle.reg_binding.proofs.share.cycles_behind.Goals as goal

pub returns-then-ahead-back-clause-behind : goal.returns-then-ahead-back-clause-behind
returns-then-ahead-back-clause-behind c =
    (c.args.other / c.args.period + 1, c.args.time / c.args.period, ahead_next c.args.period c.args.time c.args.other c.if-ahead-back.true (mod_below c.args.other c.args.period c.requires))

pub returns-else-ahead-back-clause-behind : goal.returns-else-ahead-back-clause-behind
returns-else-ahead-back-clause-behind c =
    (c.args.other / c.args.period, c.args.time / c.args.period, ahead_of c.args.period c.args.time c.args.other c.if-ahead-back.false)
