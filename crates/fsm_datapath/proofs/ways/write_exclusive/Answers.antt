use Rattle.std.proofs.Common.{[], sym, ap, subst}
use Rattle.std.proofs.lemmas.List.{take_all}
use Rattle.std.proofs.lemmas.Option.{slice_get-get_or}
use Rattle.rtl_logic.specs.Making.{circuit}
use Rattle.rtl_logic.proofs.Making.{appended}
use Rattle.datapath.specs.Cycles.{Cycle, bit}
use Rattle.datapath.specs.Control.{leaves_as}
use Rattle.datapath.proofs.Combining.{carries_on}
use Rattle.circuit_context.proofs.WantedLemmas.Joining.{logs_none}
use Rattle.fsm_datapath.specs.Steps.{exclusive_cases, TellCases}
use Rattle.fsm_datapath.proofs.Choosing.{exclusive_step}
use Rattle.fsm_datapath.proofs.Listing.{logs_as}
use Rattle.fsm_datapath.proofs.ways.write_exclusive.Goals as goal

pub loop-case-preserved : goal.loop-case-preserved
loop-case-preserved c = λ p names n h begun leaving.
    let before = c.loop-case.invariant p names n h begun leaving in
    let d = circuit c.args.logic.now in
    let e = circuit c.loop-case.logic in
    let k = c.loop-case.case-index in
    let leave = carries_on p names d e 1 c.args.leaving.when (λ (x : Cycle). bit (leaves_as p x c.args.leaving.node.0 n)) (appended d e before.0.appends) leaving in
    exclusive_step p names d e (circuit c.write_way.new.logic) c.args.log.now.pushes.items c.loop-case.log.pushes.items c.write_way.new.log.pushes.items (c.args.leaving.node.0, n) c.args.cases.now k _
    c.args.leaving.when c.in_ok-test.test c.loop-case.tests.items c.push.new.self.items (slice_get-get_or c.args.cases.now k _ c.loop-case-test.true) before.0 before.1 leave
    (c.in_ok-test.ensures p names h before.0.begun) (c.in_ok-write_way.ensures p names) c.in_ok-push.ensures.items

pub returns : goal.returns
returns c = λ p names n h begun leaving.
    let i = c.args.leaving.node.0 in
    let all = take_all c.loop-case.case-index c.args.cases.now c.loop-case-test.false in
    let whole = c.loop-case.invariant p names n h begun leaving in (
      logs_as p names _ _ _ _ _ _ (ap (exclusive_cases p (i, n)) all) whole.0,
      subst (λ l. TellCases p names (circuit c.loop-case.logic) i l c.loop-case.tests.items) all whole.1,
    )

pub loop-case-init : goal.loop-case-init
loop-case-init c = λ p names n h begun leaving.
    let d = circuit c.args.logic.now in
    (logs_none p names d c.args.log.now.pushes.items begun, subst (TellCases p names d c.args.leaving.node.0 []) (sym c.in_ok-tests.ensures.items) tt)
