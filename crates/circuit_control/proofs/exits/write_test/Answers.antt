use Rattle.std.proofs.Common.{[], ◌∷◌, refl}
use Rattle.std.specs.Prelude.{◌&&◌}
use Rattle.std.proofs.lemmas.Result.{on_ok_weaker}
use Rattle.rtl_logic.specs.Choosing.{where_}
use Rattle.rtl_logic.specs.Making.{circuit}
use Rattle.datapath.specs.Cycles.{Cycle, Gate, holds, bit}
use Rattle.datapath.specs.Control.{is_tested, test_holds}
use Rattle.circuit_context.specs.declared.wanted.role.Role.TheVariants as role
use Rattle.circuit_context.specs.declared.wanted.role.Target.TheVariants as t
use Rattle.circuit_context.specs.Wanted.Entries.{bit_entry, register_entry}
use Rattle.circuit_context.proofs.WantedLemmas.Joining.{logs_then, logs_behind}
use Rattle.circuit_control.proofs.Telling.{tells_later}
use Rattle.circuit_control.proofs.Pieces.{test_pushed}
use Rattle.circuit_control.proofs.exits.write_test.Goals as goal

pub returns : goal.returns
returns c = λ p names context begun.
    let i = c.args.node.0 in
    let d = circuit c.args.logic.now in
    let e = circuit c.is_tested.new.logic in
    let f = circuit c.both.new.logic in
    let before = c.args.log.now.pushes.items in
    let middle = c.push.new.self.pushes.items in
    let after = c.write.new.log.pushes.items in
    let when = c.in_ok-when.ensures p names context begun in
    let running = c.in_ok-running.ensures p names e context when.begun refl in
    let test = c.in_ok-test.ensures p names context when.begun in
    let value = c.in_ok-value.ensures p names (λ (x : Cycle). holds x (Gate 0)) (λ (x : Cycle). test_holds p x i) when.begun running test in
    let first = test_pushed p names d e before middle c.in_ok-when.when c.constant.result (λ (x : Cycle). is_tested p x i) when c.constant.ensures c.in_ok-push.ensures in
    on_ok_weaker c.write.result
    (λ h. logs_then p names d e f before middle after (bit_entry t.Tested (λ (x : Cycle). is_tested p x i) ∷ [])
    (register_entry (role.Gate 0) (λ (x : Cycle). where_ (is_tested p x i) (bit (holds x (Gate 0) && test_holds p x i))) ∷ []) first (logs_behind p names e f f middle after _ value.appends h))
    (c.write.ensures p names f (λ (x : Cycle). is_tested p x i) (λ (x : Cycle). bit (holds x (Gate 0) && test_holds p x i)) context value.begun
    (tells_later p names e f c.in_ok-when.when (λ (x : Cycle). is_tested p x i) value.appends when.carries) value.carries)
