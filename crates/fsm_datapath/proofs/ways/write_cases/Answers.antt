use Rattle.std.proofs.Common.{◌≡◌, ◌∙◌, List, true, false, sym, ap, subst}
use Rattle.std.proofs.lemmas.Result.{IfOk-weaker}
use Rattle.rtl_core.specs.declared.design.Atom.{Atom}
use Rattle.clock_ir.specs.Flows.{TimedBody}
use Rattle.clock_ir.specs.ClockRuns.{timed_node}
use Rattle.rtl_logic.specs.Making.{circuit}
use Rattle.rtl_logic.proofs.Making.{appended}
use Rattle.datapath.specs.Plans as plans
use Rattle.datapath.specs.Cycles.{Cycle, bit}
use Rattle.datapath.specs.Control.{leaves_as}
use Rattle.datapath.specs.LeftOut.{all_differ}
use Rattle.datapath.proofs.Combining.{carries_on}
use Rattle.fsm_datapath.specs.Steps.{choice_cases, TellCases}
use Rattle.fsm_datapath.proofs.Listing.{logs_as, logs_ahead}
use Rattle.fsm_datapath.proofs.Standing.{same_node}
use Rattle.fsm_datapath.proofs.ways.write_cases.Goals as goal

pub returns-in_ok-tests : goal.returns-in_ok-tests
returns-in_ok-tests c = λ p names n h begun stands leaving.
    let i = c.args.leaving.node.0 in
    let cases = c.args.cases.now in
    let d = circuit c.args.logic.now in
    let e = circuit c.write_exclusive.new.logic in
    let f = circuit c.none_of.new.logic in
    let m = timed_node c.node_at-node.result.now in
    let body = c.body_of.ensures ∙ ap plans.body_of (same_node p i m n (c.node_at-node.ensures.timed p names h) stands) in
    let differ : true ≡ all_differ (plans.body_of n) cases = sym c.if-branch.true ∙ (c.in_ok-are_exclusive.ensures (plans.body_of m).interval ∙ ap (λ (b : TimedBody). all_differ b cases) body) in
    let first = c.in_ok-tests.ensures p names n h begun leaving in
    let leave = carries_on p names d e 1 c.args.leaving.when (λ (x : Cycle). bit (leaves_as p x i n)) (appended d e first.0.appends) leaving in
    let tests = subst (λ (l : List Atom). TellCases p names e i cases l) (sym c.deref.ensures.value) first.1 in
    IfOk-weaker c.none_of.result _ _
    (λ a made. (logs_as p names d f _ _ _ _ (ap (λ b. choice_cases p (i, n) b cases) differ) (logs_ahead p names d e f _ _ _ first.0 made.appends made.begun), made.carries))
    (c.none_of.ensures p names n cases first.0.begun leave tests)

pub returns-else-branch : goal.returns-else-branch
returns-else-branch c = λ p names n h begun stands leaving.
    let i = c.args.leaving.node.0 in
    let cases = c.args.cases.now in
    let m = timed_node c.node_at-node.result.now in
    let body = c.body_of.ensures ∙ ap plans.body_of (same_node p i m n (c.node_at-node.ensures.timed p names h) stands) in
    let differ : false ≡ all_differ (plans.body_of n) cases = sym c.if-branch.false ∙ (c.in_ok-are_exclusive.ensures (plans.body_of m).interval ∙ ap (λ (b : TimedBody). all_differ b cases) body) in
    IfOk-weaker c.write_ordered.result _ _ (λ a whole. (logs_as p names _ _ _ _ _ _ (ap (λ b. choice_cases p (i, n) b cases) differ) whole.0, whole.1)) (c.write_ordered.ensures p names n h begun leaving)
