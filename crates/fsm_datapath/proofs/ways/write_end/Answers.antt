use Rattle.std.proofs.Common.{◌≡◌, ◌∙◌, ◌++◌, ◌∷◌, [], List, refl, sym, ap}
use Rattle.hls_base.specs.declared.number.NodeId.{NodeId}
use Rattle.ir_core.specs.declared.body.Operand.{Operand}
use Rattle.std.specs.Prelude.{not, ◌&&◌, ◌==◌}
use Rattle.std.proofs.lemmas.Result.{on_ok_weaker}
use Rattle.clock_ir.specs.ClockRuns.{block}
use Rattle.rtl_logic.specs.Making.{circuit}
use Rattle.rtl_logic.proofs.Making.{appended}
use Rattle.datapath.specs.Cycles.{Cycle, bit}
use Rattle.datapath.specs.Control.{leaves_as}
use Rattle.datapath.proofs.Combining.{carries_on}
use Rattle.circuit_context.specs.Wanted.Entries.{last_operand, no_case_holds, way, ways}
use Rattle.circuit_context.proofs.WantedLemmas.Joining.{logs_then, logs_behind}
use Rattle.datapath.specs.LeftOut.{all_differ, ends_exclusive}
use Rattle.fsm_datapath.specs.Steps.{choice_cases, none_left}
use Rattle.fsm_datapath.proofs.Choosing.{not_not, exclusive_is, choice_ways}
use Rattle.fsm_datapath.proofs.Listing.{logs_as}
use Rattle.fsm_datapath.proofs.ways.write_end.Goals as goal

pub returns-in_ok-rest-in-Branch : goal.returns-in_ok-rest-in-Branch
returns-in_ok-rest-in-Branch c = λ p names body h begun stands leaving.
    let i = c.args.leaving.node.0 in
    let n = block body c.args.end.now in
    let d = circuit c.args.logic.now in
    let e = circuit c.write_way.new.logic in
    let f = circuit c.without.new.logic in
    let leaves_ = λ (x : Cycle). leaves_as p x i n in
    let holds_ = λ (x : Cycle). not (last_operand p i x c.in-Branch.test == 0) in
    let test = c.in_ok-test-in-Branch.ensures p names h begun in
    let taken = c.in_ok-write_way-in-Branch.ensures p names leaves_ holds_ (λ (x : Cycle). leaves_ x && holds_ x) begun leaving test (λ x. refl) in
    let longer = appended d e taken.appends in
    let rest = c.in_ok-rest-in-Branch.ensures p names leaves_ holds_ (λ (x : Cycle). leaves_ x && (last_operand p i x c.in-Branch.test == 0)) taken.begun
    (carries_on p names d e 1 c.args.leaving.when (λ (x : Cycle). bit (leaves_ x)) longer leaving) (carries_on p names d e 1 c.in_ok-test-in-Branch.test (λ (x : Cycle). bit (holds_ x)) longer test)
    (λ x. ap (λ b. leaves_ x && b) (not_not (last_operand p i x c.in-Branch.test == 0))) in
    on_ok_weaker c.enter-in-Branch.result
    (λ logs. logs_as p names d f _ _ _ _ (ap (ways p (i, n)) (sym c.in-Branch.is)) (logs_then p names d e f _ _ _ _ _ taken (logs_behind p names e f f _ _ _ rest.appends logs)))
    (c.enter-in-Branch.ensures p names f (λ (x : Cycle). leaves_ x && (last_operand p i x c.in-Branch.test == 0)) rest.begun rest.carries)

pub returns-in_ok-rest-in-Choose : goal.returns-in_ok-rest-in-Choose
returns-in_ok-rest-in-Choose c = λ p names body h begun stands leaving.
    let i = c.args.leaving.node.0 in
    let n = block body c.args.end.now in
    let e = circuit c.write_cases.new.logic in
    let cases = c.in-Choose.cases.items in
    let other = c.in-Choose.other in
    let whole = c.in_ok-rest-in-Choose.ensures p names n h begun stands leaving in
    let exclusive : p.savings.exclusive i ≡ all_differ body cases = exclusive_is p names c.args.of.now i body c.args.end.now h stands ∙ ap (ends_exclusive body) c.in-Choose.is in
    let all = ap (λ (cs : List (Operand × NodeId)). choice_cases p (i, n) (all_differ body cs) cs ++ way p (i, n) other (no_case_holds p i cs) ∷ []) c.deref.ensures.value
    ∙ (choice_ways p (i, n) (all_differ body cases) cases other exclusive ∙ ap (ways p (i, n)) (sym c.in-Choose.is)) in
    on_ok_weaker c.enter-in-Choose.result (λ logs. logs_as p names _ e _ _ _ _ all (logs_then p names _ e e _ _ _ _ _ whole.0 logs))
    (c.enter-in-Choose.ensures p names e (none_left p (i, n) c.deref.result.now) whole.0.begun whole.1)

pub returns-in_ok-finish-in-Return : goal.returns-in_ok-finish-in-Return
returns-in_ok-finish-in-Return c = λ p names body h begun stands leaving.
    let i = c.args.leaving.node.0 in
    let n = block body c.args.end.now in
    let d = circuit c.args.logic.now in
    let ended = c.in_ok-finish-in-Return.ensures p names d (λ (x : Cycle). leaves_as p x i n) begun leaving in
    on_ok_weaker c.write_result.result (λ logs. logs_as p names d d _ _ _ _ (ap (ways p (i, n)) (sym c.in-Return.is)) (logs_then p names d d d _ _ _ _ _ ended logs))
    (c.write_result.ensures p names n h begun leaving)
