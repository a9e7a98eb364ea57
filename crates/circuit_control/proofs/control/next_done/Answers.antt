use Rattle.std.proofs.Common.{refl}
use Rattle.std.specs.Prelude.{◌||◌}
use Rattle.std.proofs.lemmas.Result.{IfOk-weaker}
use Rattle.rtl_logic.specs.Making.{circuit}
use Rattle.rtl_logic.proofs.Making.{appends_both}
use Rattle.datapath.specs.Cycles.{Cycle, Done, holds, bit, resets, starts}
use Rattle.datapath.specs.Control.{is_ending, waits_on, next_done}
use Rattle.circuit_control.proofs.Telling.{reset_tells, start_tells, tells_later, made_behind}
use Rattle.circuit_control.proofs.control.next_done.Goals as goal

pub returns : goal.returns
returns c = λ p names context begun ended.
    let d = circuit c.args.logic.now in
    let e = circuit c.except.new.logic in
    let f = circuit c.either.new.logic in
    let g = circuit c.except-2.new.logic in
    let done = c.in_ok-done.ensures p names d context begun refl in
    let still = c.in_ok-still.ensures p names (λ (x : Cycle). holds x Done) starts begun done (start_tells p names d begun) in
    let goes = c.in_ok-goes.ensures p names (is_ending p) (λ (x : Cycle). waits_on x Done) still.begun (tells_later p names d e c.args.ended (is_ending p) still.appends ended) still.carries in
    IfOk-weaker c.except-2.result _ _ (λ a made. made_behind p names d f g 1 a (λ (x : Cycle). bit (next_done p x)) (appends_both d e f still.appends goes.appends) made)
    (c.except-2.ensures p names (λ (x : Cycle). is_ending p x || waits_on x Done) resets goes.begun goes.carries (reset_tells p names f goes.begun))
