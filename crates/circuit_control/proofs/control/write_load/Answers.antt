use Rattle.std.specs.Prelude.{◌&&◌, not}
use Rattle.std.proofs.lemmas.Result.{on_ok_weaker}
use Rattle.rtl_logic.specs.Making.{circuit}
use Rattle.datapath.specs.Cycles.{Cycle, bit, resets}
use Rattle.datapath.specs.Control.{is_entered, next_load}
use Rattle.circuit_context.proofs.WantedLemmas.Joining.{logs_behind}
use Rattle.circuit_control.proofs.Telling.{reset_tells, tells_as}
use Rattle.circuit_control.proofs.Pieces.{load_next}
use Rattle.circuit_control.proofs.control.write_load.Goals as goal

pub returns : goal.returns
returns c = λ p names context begun looped entered.
    let i = c.args.node.0 in
    let d = circuit c.args.logic.now in
    let e = circuit c.except.new.logic in
    let next = c.in_ok-next.ensures p names (λ (x : Cycle). is_entered p x i) resets begun entered (reset_tells p names d begun) in
    let tells = tells_as p names e c.in_ok-next.next (λ (x : Cycle). is_entered p x i && not (resets x)) (λ (x : Cycle). next_load p x i) (λ (x : Cycle). load_next p x i looped) next.carries in
    on_ok_weaker c.write_always.result (λ h. logs_behind p names d e e c.args.log.now.pushes.items c.write_always.new.log.pushes.items _ next.appends h)
    (c.write_always.ensures p names e (λ (x : Cycle). bit (next_load p x i)) context next.begun tells)
