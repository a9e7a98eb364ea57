use Rattle.std.proofs.Common.{true, false, subst}
use Rattle.std.specs.Prelude.{IfSome}
use Rattle.std.proofs.lemmas.Result.{IfOk-weaker}
use Rattle.clock_ir.specs.Flows.{timed_op}
use Rattle.datapath.specs.Cycles.{Cycle}
use Rattle.datapath.specs.Values.{arriving}
use Rattle.circuit_context.specs.Wanted.Logs.{CarriesSome}
use Rattle.circuit_units.specs.Units.{answer_of}
use Rattle.fsm_datapath.proofs.Arriving.{product_arrives, quotient_arrives, remainder_arrives}
use Rattle.fsm_datapath.proofs.Pushing.{some_as}
use Rattle.fsm_datapath.proofs.sources.arriving.Goals as goal

pub returns-in-Mul-default : goal.returns-in-Mul-default
returns-in-Mul-default c = λ p names d h begun computed answers.
    let i = c.args.node.0 in
    let k = c.args.op.0 in
    IfOk-weaker c.answer.result _ _
    (λ a carries. some_as p names d a (answer_of p c.unit.result false) (λ (x : Cycle). arriving p x i k)
    (product_arrives p i k c.operation-it.result.now c.unit.result c.unit.ensures (c.operation-it.ensures.stands p names h) c.in-Mul-default.is-0 (c.operation-it.ensures.unit p names h)) carries) (c.answer.ensures p names d answers)

pub returns-in-Div-default : goal.returns-in-Div-default
returns-in-Div-default c = λ p names d h begun computed answers.
    let i = c.args.node.0 in
    let k = c.args.op.0 in
    let unit = c.unit-in-Div-default.result in
    IfOk-weaker c.answer-in-Div-default.result _ _
    (λ a carries. some_as p names d a (answer_of p unit false) (λ (x : Cycle). arriving p x i k)
    (quotient_arrives p i k c.operation-it.result.now unit c.unit-in-Div-default.ensures (c.operation-it.ensures.stands p names h) c.in-Div-default.is-0 (c.operation-it.ensures.unit p names h)) carries)
    (c.answer-in-Div-default.ensures p names d answers)

pub returns-in-Rem-default : goal.returns-in-Rem-default
returns-in-Rem-default c = λ p names d h begun computed answers.
    let i = c.args.node.0 in
    let k = c.args.op.0 in
    let unit = c.unit-in-Rem-default.result in
    IfOk-weaker c.answer-in-Rem-default.result _ _
    (λ a carries. some_as p names d a (answer_of p unit true) (λ (x : Cycle). arriving p x i k)
    (remainder_arrives p i k c.operation-it.result.now unit c.unit-in-Rem-default.ensures (c.operation-it.ensures.stands p names h) c.in-Rem-default.is-0 (c.operation-it.ensures.unit p names h)) carries)
    (c.answer-in-Rem-default.ensures p names d answers)

pub returns-in-Load-Some : goal.returns-in-Load-Some
returns-in-Load-Some c = λ p names d h begun computed answers.
    c.word.ensures p names d (timed_op c.operation-it.result.now) h begun (c.operation-it.ensures.stands p names h) c.in-Load-Some.is-0 c.in-Load-Some.is-1

pub returns-in-Some : goal.returns-in-Some
returns-in-Some c = λ p names d h begun computed answers.
    subst (λ o. IfSome o (λ a. CarriesSome p names d a (λ (x : Cycle). arriving p x c.args.node.0 c.args.op.0))) c.in-Some.is (c.wire.ensures p names d computed)
