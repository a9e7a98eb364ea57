use Rattle.std.proofs.Common.{◌≡◌, IfOk, subst}
use Rattle.clock_ir.specs.Flows.{timed_body}
use Rattle.circuit_control.proofs.SavingsLemmas.Comparing.{exclusive_as}
use Rattle.circuit_control.proofs.savings.savings.are_exclusive.Goals as goal

pub returns : goal.returns
returns c = λ interval.
    subst (λ b. IfOk c.are_others.result (λ r. r ≡ b))
    (exclusive_as (timed_body interval c.args.body.now) c.args.cases.now c.in-Some.first.now c.in-Some.rest.now c.comparison.result c.in-Some-comparison.operand c.in-Some-comparison.number
    c.in-Some.ensures.cases.0 (c.comparison.ensures interval) c.in-Some-comparison.is)
    (c.are_others.ensures interval)
