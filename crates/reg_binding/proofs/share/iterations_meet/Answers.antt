use Rattle.std.proofs.Common.{inl, inr, arith}
use Rattle.std.proofs.lemmas.Bool.{lt-ltb, ltb-true}
use Rattle.reg_binding.proofs.Meeting.{meet_behind, meet_ahead, meeting}
use Rattle.reg_binding.proofs.share.iterations_meet.Goals as goal

pub returns-then-behind-other : goal.returns-then-behind-other
returns-then-behind-other c =
    let one = c.args.one.now in
    let other = c.args.other.now in
    let behind = c.cycles_behind-behind.ensures.behind in (
      λ lt. meet_behind c.args.period c.cycles_behind-behind.result one other behind.0 behind.1 behind.2 c.if-behind-other.true (omega (arith, c.if-one-eq0.false)),
      λ found. lt-ltb c.cycles_behind-behind.result other.length c.if-behind-other.true,
    )

pub returns-else-behind-other : goal.returns-else-behind-other
returns-else-behind-other c =
    let p = c.args.period in
    let one = c.args.one.now in
    let other = c.args.other.now in
    let behind = c.cycles_behind-behind.ensures.behind in
    let ahead = c.cycles_behind-ahead.ensures.behind in
    let by = c.cycles_behind-behind.result in
    let by_too = c.cycles_behind-ahead.result in (
      λ lt. meet_ahead p by_too other one ahead.0 ahead.1 ahead.2 (ltb-true by_too one.length lt) (omega (arith, c.if-other-eq0.false)),
      λ found. lt-ltb by_too one.length (elim ((meeting p by by_too one other behind.0 behind.1 ahead.0 ahead.1 behind.2 c.cycles_behind-behind.ensures.less ahead.2 c.cycles_behind-ahead.ensures.less found.0 found.1 found.2).2) [
        | inl lt ↦ absurd (omega (arith, lt, c.if-behind-other.false))
        | inr lt ↦ lt
      ]),
    )
