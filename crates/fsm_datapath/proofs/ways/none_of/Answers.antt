use Rattle.std.proofs.Common.{refl}
use Rattle.std.specs.List.{list_any}
use Rattle.std.proofs.lemmas.Result.{IfOk-weaker}
use Rattle.rtl_logic.specs.Making.{circuit}
use Rattle.rtl_logic.proofs.Making.{appended, appends_both}
use Rattle.datapath.specs.Cycles.{Cycle, bit}
use Rattle.datapath.specs.Control.{holds_case, leaves_as}
use Rattle.datapath.proofs.Combining.{carries_on}
use Rattle.circuit_context.specs.Wanted.Entries.{last_operand}
use Rattle.fsm_datapath.specs.Steps.{none_left}
use Rattle.fsm_datapath.proofs.Choosing.{tests_fit, any_tells}
use Rattle.fsm_datapath.proofs.ways.none_of.Goals as goal

pub returns : goal.returns
returns c = λ p names n cases begun leaving tests.
    let i = c.args.leaving.node.0 in
    let d = circuit c.args.logic.now in
    let e = circuit c.any.new.self in
    let f = circuit c.without.new.logic in
    let atoms = c.args.tests.now in
    let one = any_tells p names d e i cases atoms c.in_ok-one.one begun tests (c.in_ok-one.ensures begun.sound (tests_fit p names d i cases atoms tests)) in
    let leave = carries_on p names d e 1 c.args.leaving.when (λ (x : Cycle). bit (leaves_as p x i n)) (appended d e one.appends) leaving in
    IfOk-weaker c.without.result _ _ (λ a made. record { appends = appends_both d e f one.appends made.appends; begun = made.begun; carries = made.carries })
    (c.without.ensures p names (λ (x : Cycle). leaves_as p x i n) (λ (x : Cycle). list_any (holds_case (last_operand p i x)) cases) (none_left p (i, n) cases) one.begun leave one.carries (λ x. refl))
