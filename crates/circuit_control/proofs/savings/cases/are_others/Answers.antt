use Rattle.clock_ir.specs.Flows.{timed_body}
use Rattle.datapath.specs.LeftOut.{compared}
use Rattle.circuit_control.proofs.SavingsLemmas.Comparing.{others_more, others_stop}
use Rattle.circuit_control.proofs.savings.cases.are_others.Goals as goal

pub returns-then-not-branch : goal.returns-then-not-branch
returns-then-not-branch c = λ interval.
    others_stop (compared (timed_body interval c.args.body.now)) c.args.operand c.args.cases.now c.loop-case.numbers.keys c.loop-case.case-index _ c.in_ok-is_other.field-0 _ c.loop-case-test.true
    (c.in_ok-is_other.ensures.other interval) c.if-not-branch.true (c.loop-case.invariant interval)

pub loop-case-preserved : goal.loop-case-preserved
loop-case-preserved c = λ interval.
    others_more (compared (timed_body interval c.args.body.now)) c.args.operand c.args.cases.now c.loop-case.numbers.keys c.is_other.new.numbers.keys c.loop-case.case-index _ c.in_ok-is_other.field-0 _
    c.loop-case-test.true (c.in_ok-is_other.ensures.other interval) c.if-not-branch.false (c.in_ok-is_other.ensures.more interval c.if-not-branch.false) (c.loop-case.invariant interval)
