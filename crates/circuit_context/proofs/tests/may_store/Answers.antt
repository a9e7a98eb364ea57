use Rattle.std.proofs.Common.{◌≡◌, ◌-◌, ◌/◌, ◌%◌, ◌∙◌, true, false, ap}
use Rattle.std.specs.Prelude.{◌&&◌}
use Rattle.std.proofs.lemmas.Result.{IfOk-weaker}
use Rattle.clock_ir.specs.Flows.{known}
use Rattle.rtl_logic.specs.Making.{circuit}
use Rattle.rtl_logic.proofs.Making.{appended, fits_later}
use Rattle.datapath.specs.Plans.{Placed, body_at}
use Rattle.datapath.specs.Cycles.{Cycle, bit}
use Rattle.datapath.specs.Reading as reading
use Rattle.datapath.specs.Control as control
use Rattle.datapath.proofs.Combining.{carries_as}
use Rattle.circuit_context.specs.Contexts.{placed}
use Rattle.circuit_context.proofs.Standing.{span_there}
use Rattle.circuit_context.proofs.Gates.{both_made, known_there, gated_there, stores_always, stores_behind}
use Rattle.circuit_context.proofs.tests.may_store.Goals as goal

pub returns-then-not-is_gated : goal.returns-then-not-is_gated
returns-then-not-is_gated c = λ p names k h begun.
    let i = c.args.node.0 in
    let it : Placed = placed i k c.args.op.now in
    let none = gated_there p names c.args.of.now i c.node-itself.result.now c.is_gated.result false h c.node-itself.ensures.stands c.is_gated.ensures c.if-not-is_gated.true in
    carries_as p names (circuit c.args.logic.now) (circuit c.at_iteration.new.logic) 1 c.in_ok-now.now (λ (x : Cycle). bit (reading.at_iteration p x i it.op.start)) (λ (x : Cycle). bit (control.may_store p x it))
    (λ x. ap bit (stores_always p x it none)) (c.in_ok-now.ensures p names h begun)

pub returns : goal.returns
returns c = λ p names k h begun.
    let d = circuit c.args.logic.now in
    let e = circuit c.at_iteration.new.logic in
    let f = circuit c.gate_after.new.logic in
    let g = circuit c.and.new.self in
    let i = c.args.node.0 in
    let n = c.node-itself.result.now in
    let it : Placed = placed i k c.args.op.now in
    let since = c.saturating_sub-since.result in
    let cycles = c.span-cycles.result in
    let l = c.in_ok-now.now in
    let r = c.in_ok-gate.gate in
    let some = gated_there p names c.args.of.now i n c.is_gated.result true h c.node-itself.ensures.stands c.is_gated.ensures c.if-not-is_gated.false in
    let known_ = known_there p names c.args.of.now i c.known_at.result n h c.node-itself.ensures.stands c.known_at.ensures in
    let time : since ≡ it.op.start - known (body_at p i) = c.saturating_sub-since.ensures ∙ ap (λ t. it.op.start - t) known_ in
    let same = span_there p names c.args.of.now i cycles n h c.node-itself.ensures.stands c.span-cycles.ensures.value in
    let now = c.in_ok-now.ensures p names h begun in
    let gate = c.in_ok-gate.ensures p names h now.begun in
    IfOk-weaker c.and.result _ _
    (λ a made. carries_as p names d g 1 a (λ (x : Cycle). bit (reading.at_iteration p x i it.op.start && control.gate_after p x i (since / cycles) (since % cycles))) (λ (x : Cycle). bit (control.may_store p x it))
    (λ x. ap bit (stores_behind p x it since cycles some time same))
    (both_made p names d e f g l r a (λ (x : Cycle). reading.at_iteration p x i it.op.start) (λ (x : Cycle). control.gate_after p x i (since / cycles) (since % cycles)) now gate made))
    (c.and.ensures gate.begun.sound (fits_later e f (appended e f gate.appends) 1 l now.carries.fits) gate.carries.fits)
