use Rattle.std.proofs.Common.{[], ap}
use Rattle.std.proofs.lemmas.List.{take_all}
use Rattle.std.proofs.lemmas.Option.{slice_get-get_or}
use Rattle.rtl_logic.specs.Making.{circuit}
use Rattle.datapath.specs.Cycles.{Cycle}
use Rattle.datapath.specs.Control.{leaves_as}
use Rattle.circuit_context.proofs.WantedLemmas.Joining.{logs_none}
use Rattle.fsm_datapath.specs.Steps.{ordered_cases, none_left}
use Rattle.fsm_datapath.proofs.Choosing.{none_first, ordered_step}
use Rattle.fsm_datapath.proofs.Listing.{logs_as}
use Rattle.fsm_datapath.proofs.Pushing.{tells_as}
use Rattle.fsm_datapath.proofs.ways.write_ordered.Goals as goal

pub loop-case-init : goal.loop-case-init
loop-case-init c = λ p names n h begun leaving.
    let i = c.args.leaving.node.0 in
    let d = circuit c.args.logic.now in
    (logs_none p names d c.args.log.now.pushes.items begun, tells_as p names d c.args.leaving.when (λ (x : Cycle). leaves_as p x i n) (none_left p (i, n) []) (none_first p (i, n)) leaving)

pub loop-case-preserved : goal.loop-case-preserved
loop-case-preserved c = λ p names n h begun leaving.
    let before = c.loop-case.invariant p names n h begun leaving in
    let k = c.loop-case.case-index in
    ordered_step p names (circuit c.args.logic.now) (circuit c.loop-case.logic) (circuit c.write_way.new.logic) (circuit c.without.new.logic) c.args.log.now.pushes.items c.loop-case.log.pushes.items
    c.write_way.new.log.pushes.items (c.args.leaving.node.0, n) c.args.cases.now k _ c.loop-case.rest c.in_ok-test.test c.in_ok-rest.rest (slice_get-get_or c.args.cases.now k _ c.loop-case-test.true)
    before.0 before.1 (c.in_ok-test.ensures p names h before.0.begun) (c.in_ok-write_way.ensures p names) (c.in_ok-rest.ensures p names)

pub returns : goal.returns
returns c = λ p names n h begun leaving.
    let i = c.args.leaving.node.0 in
    let all = take_all c.loop-case.case-index c.args.cases.now c.loop-case-test.false in
    let whole = c.loop-case.invariant p names n h begun leaving in (
      logs_as p names _ _ _ _ _ _ (ap (ordered_cases p (i, n) []) all) whole.0,
      tells_as p names _ c.loop-case.rest _ (none_left p (i, n) c.args.cases.now) (λ (x : Cycle). ap (λ l. none_left p (i, n) l x) all) whole.1,
    )
