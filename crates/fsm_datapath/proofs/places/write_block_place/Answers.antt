use Rattle.std.proofs.Common.{ap}
use Rattle.std.proofs.lemmas.Result.{on_ok_weaker}
use Rattle.rtl_logic.specs.Making.{circuit}
use Rattle.rtl_logic.proofs.Making.{appended}
use Rattle.datapath.specs.Cycles.{Cycle}
use Rattle.datapath.specs.Reading as reading
use Rattle.datapath.specs.Values as values
use Rattle.circuit_context.proofs.WantedLemmas.Joining.{logs_behind}
use Rattle.fsm_datapath.proofs.Pushing.{tells_as, computed_on, answers_on}
use Rattle.circuit_context.proofs.Named.{node_of_operation}
use Rattle.fsm_datapath.proofs.places.write_block_place.Goals as goal

pub returns : goal.returns
returns c = λ p names h begun computed answers.
    let d = circuit c.args.logic.now in
    let e = circuit c.at.new.logic in
    let held = c.args.held in
    let made = c.in_ok-when.ensures p names h begun in
    let longer = appended d e made.appends in
    let when = tells_as p names e c.in_ok-when.when _ (λ (x : Cycle). reading.at p x held.node.0 (values.arrival p held)) (λ x. ap (reading.at p x held.node.0) (c.arrival-time.ensures.arrival p names h)) made.carries in
    let value = c.in_ok-value.ensures p names e h made.begun (computed_on p names d e c.args.sources.now.computed.now longer computed) (answers_on p names d e c.args.sources.now.units.now longer answers) in
    on_ok_weaker c.take.result (logs_behind p names d e e _ _ _ made.appends)
    (c.take.ensures p names (λ (x : Cycle). reading.at p x held.node.0 (values.arrival p held)) (λ (x : Cycle). values.arriving p x held.node.0 held.op.0) h made.begun when value)

pub arrival-time-requires : goal.arrival-time-requires
arrival-time-requires c = node_of_operation c.args.of.now.cfg.now.nodes.items c.args.held.node.0 c.args.held.op.0 c.requires

pub at-requires : goal.at-requires
at-requires c = node_of_operation c.args.of.now.cfg.now.nodes.items c.args.held.node.0 c.args.held.op.0 c.requires
