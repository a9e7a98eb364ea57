use Rattle.std.proofs.Common.{inl, inr, arith}
use Rattle.std.proofs.lemmas.Bool.{cases_lt}
use Rattle.timing_path.proofs.back.first_at.Goals as goal

pub returns-then-other-time : goal.returns-then-other-time
returns-then-other-time c =
    (c.loop-k-test.true, c.if-other-time.true, λ j w e. elim (cases_lt j c.loop-k.k) [ inl l ↦ absurd (c.loop-k.invariant j l e) | inr l ↦ l ])

pub returns : goal.returns
returns c = λ j w e. c.loop-k.invariant j (omega (arith, c.loop-k-test.false)) e
