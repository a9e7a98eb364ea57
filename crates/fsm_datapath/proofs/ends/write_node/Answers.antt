use Rattle.std.proofs.Common.{ap}
use Rattle.std.proofs.lemmas.Result.{on_ok_weaker}
use Rattle.rtl_logic.specs.Making.{circuit}
use Rattle.rtl_logic.proofs.Making.{appended}
use Rattle.datapath.specs.Cycles.{Cycle}
use Rattle.datapath.specs.Control.{leaves_as, leaves_if}
use Rattle.circuit_context.proofs.WantedLemmas.Joining.{logs_then, logs_behind}
use Rattle.fsm_datapath.proofs.Pushing.{tells_as, computed_on, answers_on}
use Rattle.fsm_datapath.proofs.ends.write_node.Goals as goal

pub returns : goal.returns
returns c = λ p names n h begun computed answers stands.
    let d = circuit c.args.logic.now in
    let e = circuit c.leaves.new.logic in
    let i = c.args.node.0 in
    let made = c.in_ok-when.ensures p names h begun in
    let longer = appended d e made.appends in
    let leaving = tells_as p names e c.in_ok-when.when _ (λ (x : Cycle). leaves_as p x i n) (λ x. ap (leaves_if p x i) stands) made.carries in
    let outs = c.in_ok-write_outs.ensures p names n h made.begun (computed_on p names d e c.args.sources.now.computed.now longer computed) (answers_on p names d e c.args.sources.now.units.now longer answers) stands leaving in
    on_ok_weaker c.write_ways.result (λ ways. logs_behind p names d e _ _ _ _ made.appends (logs_then p names e e _ _ _ _ _ _ outs ways)) (c.write_ways.ensures p names n h made.begun stands leaving)
