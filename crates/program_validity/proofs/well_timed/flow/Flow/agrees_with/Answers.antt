use Rattle.std.proofs.Common.{sym, ◌∙◌}
use Rattle.program_validity.specs.Checks.{pair_in_time}
use Rattle.program_validity.proofs.WellTimed.Tests.{all_stops, all_more}
use Rattle.program_validity.proofs.well_timed.flow.Flow.agrees_with.Goals as goal

pub returns-then-not-agree : goal.returns-then-not-agree
returns-then-not-agree c =
    let flow = c.args.self.now in
    let p = pair_in_time flow.interval flow.memories.now flow.body.now c.args.op.now in
    all_stops p c.args.others.now c.loop-other.other-index c.other-item.result c.loop-other-test.true c.other-item.is (sym c.agree.ensures ∙ c.if-not-agree.true) ∙ c.loop-other.invariant

pub loop-other-preserved : goal.loop-other-preserved
loop-other-preserved c =
    let flow = c.args.self.now in
    let p = pair_in_time flow.interval flow.memories.now flow.body.now c.args.op.now in
    all_more p c.args.others.now c.loop-other.other-index c.other-item.result c.loop-other-test.true c.other-item.is (sym c.agree.ensures ∙ c.if-not-agree.false) ∙ c.loop-other.invariant
