use Rattle.std.proofs.Common.{ap}
use Rattle.std.proofs.lemmas.Result.{IfOk-weaker}
use Rattle.rtl_logic.specs.Making.{circuit}
use Rattle.datapath.specs.Cycles.{Cycle, bit}
use Rattle.datapath.specs.Reading as reading
use Rattle.datapath.specs.Values as values
use Rattle.datapath.proofs.Combining.{carries_as}
use Rattle.fsm_datapath.proofs.Placing.{moves_free, moves_behind}
use Rattle.fsm_datapath.proofs.places.moves.Goals as goal

pub returns-then-branch : goal.returns-then-branch
returns-then-branch c = λ p names entry h begun count.
    let held = c.args.held in
    IfOk-weaker c.at.result _ _
    (λ a made. carries_as p names (circuit c.args.logic.now) (circuit c.at.new.logic) 1 a (λ (x : Cycle). bit (reading.at p x held.node.0 c.arrival-time.result)) (λ (x : Cycle). bit (values.moves p x held entry))
    (λ x. ap bit (moves_free p held entry c.args.entries c.in_ok-is_free.field-0 count (c.in_ok-is_free.ensures p names h) c.if-branch.true c.arrival-time.result (c.arrival-time.ensures.arrival p names h) x)) made)
    (c.at.ensures p names h begun)

pub returns-else-branch : goal.returns-else-branch
returns-else-branch c = λ p names entry h begun count.
    let held = c.args.held in
    IfOk-weaker c.at_iteration.result _ _
    (λ a made. carries_as p names (circuit c.args.logic.now) (circuit c.at_iteration.new.logic) 1 a (λ (x : Cycle). bit (reading.at_iteration p x held.node.0 c.place_arrival-time.result)) (λ (x : Cycle). bit (values.moves p x held entry))
    (λ x. ap bit (moves_behind p held entry c.args.entries c.in_ok-is_free.field-0 count (c.in_ok-is_free.ensures p names h) c.if-branch.false c.place_arrival-time.result (c.place_arrival-time.ensures p names h) x)) made)
    (c.at_iteration.ensures p names h begun)
