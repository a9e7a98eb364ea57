use Rattle.std.proofs.Common.{sym, ap, subst, Some}
use Rattle.std.specs.Prelude.{IfOk, ◌==◌, not}
use Rattle.std.proofs.lemmas.Result.{IfOk-weaker}
use Rattle.rtl_logic.specs.Making.{circuit}
use Rattle.datapath.specs.Cycles.{Cycle, bit}
use Rattle.datapath.specs.Reading as reading
use Rattle.datapath.specs.CircuitWires.Carrying.{Tells}
use Rattle.circuit_context.proofs.Telling.{same_carries, carried_below}
use Rattle.circuit_context.proofs.Gates.{not_zero, constant_is}
use Rattle.circuit_context.proofs.tests.is_true.Goals as goal

pub returns-in_default : goal.returns-in_default
returns-in_default c = λ p names h begun.
    let d = circuit c.args.logic.now in
    subst (λ o. Tells p names d c.constant_bit.result (λ (x : Cycle). reading.is_true p x c.args.at.node.0 c.args.at.time o)) (sym c.in_default.is) (c.constant_bit.ensures p names d)

pub returns-in-Constant : goal.returns-in-Constant
returns-in-Constant c = λ p names h begun.
    let d = circuit c.args.logic.now in
    let a = c.constant_bit-in-Constant.result in
    let i = c.args.at.node.0 in
    let t = c.args.at.time in
    let y = c.in-Some.operand in
    let word = c.in-Constant.word in
    subst (λ o. Tells p names d a (λ (x : Cycle). reading.is_true p x i t o)) (sym c.in-Some.is)
    (same_carries p names d 1 a (λ (x : Cycle). bit (not (word == 0))) (λ (x : Cycle). bit (reading.is_true p x i t (Some y))) (λ x. ap bit (constant_is p x i t y word c.in-Constant.is))
    (c.constant_bit-in-Constant.ensures p names d))

pub returns-in_default-value : goal.returns-in_default-value
returns-in_default-value c = λ p names h begun.
    let d = circuit c.args.logic.now in
    let i = c.args.at.node.0 in
    let t = c.args.at.time in
    let y = c.in-Some.operand in
    subst (λ o. IfOk c.operand.result (λ a. Tells p names d a (λ (x : Cycle). reading.is_true p x i t o))) (sym c.in-Some.is)
    (IfOk-weaker c.operand.result _ _
    (λ a carries. carried_below p names d a (λ (x : Cycle). reading.operand p x i t y) (λ (x : Cycle). not (reading.operand p x i t y == 0)) (λ x few. not_zero (reading.operand p x i t y) few) carries)
    (c.operand.ensures p names h begun))
