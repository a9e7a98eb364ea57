use Rattle.std.proofs.Common.{refl, sym, ap, ◌∙◌}
use Rattle.std.specs.Prelude.{◌||◌, ◌&&◌, not}
use Rattle.std.proofs.lemmas.Result.{IfOk-weaker}
use Rattle.rtl_logic.specs.Making.{circuit}
use Rattle.rtl_logic.proofs.Making.{appends_both}
use Rattle.datapath.specs.Cycles.{Cycle, Ready, holds, bit, resets, starts}
use Rattle.datapath.specs.Control.{is_ending, waits_on, last_initial, next_ready}
use Rattle.datapath.proofs.Combining.{carries_as}
use Rattle.circuit_control.proofs.Telling.{reset_tells, start_tells, tells_later, made_behind}
use Rattle.circuit_control.proofs.Pieces.{ready_at_once, ready_behind}
use Rattle.circuit_control.proofs.control.next_ready.Goals as goal

pub returns-then-cycles-eq0 : goal.returns-then-cycles-eq0
returns-then-cycles-eq0 c = λ p names context begun ended.
    let d = circuit c.args.logic.now in
    let e = circuit c.except.new.logic in
    let f = circuit c.either.new.logic in
    let g = circuit c.either-then-cycles-eq0.new.logic in
    let cycles = c.initial_length-cycles.ensures p names context in
    let ready = c.in_ok-ready.ensures p names d context begun refl in
    let still = c.in_ok-still.ensures p names (λ (x : Cycle). holds x Ready) starts begun ready (start_tells p names d begun) in
    let rest = c.in_ok-rest.ensures p names (λ (x : Cycle). waits_on x Ready) resets still.begun still.carries (reset_tells p names e still.begun) in
    let first = appends_both d e f still.appends rest.appends in
    IfOk-weaker c.either-then-cycles-eq0.result _ _
    (λ a made. carries_as p names d g 1 a _ (λ (x : Cycle). bit (next_ready p x)) (λ (x : Cycle). ap bit (ready_at_once p x (sym cycles ∙ c.if-cycles-eq0.true)))
    (made_behind p names d f g 1 a (λ (x : Cycle). bit (is_ending p x || (waits_on x Ready || resets x))) first made))
    (c.either-then-cycles-eq0.ensures p names (is_ending p) (λ (x : Cycle). waits_on x Ready || resets x) rest.begun (tells_later p names d f c.args.ended (is_ending p) first ended) rest.carries)

pub returns : goal.returns
returns c = λ p names context begun ended.
    let d = circuit c.args.logic.now in
    let e = circuit c.except.new.logic in
    let f = circuit c.last_initial.new.logic in
    let g = circuit c.either-2.new.logic in
    let h = circuit c.either-3.new.logic in
    let k = circuit c.except-2.new.logic in
    let cycles = c.initial_length-cycles.ensures p names context in
    let ready = c.in_ok-ready.ensures p names d context begun refl in
    let still = c.in_ok-still.ensures p names (λ (x : Cycle). holds x Ready) starts begun ready (start_tells p names d begun) in
    let last = c.in_ok-last.ensures p names context still.begun cycles in
    let rest = c.in_ok-rest-2.ensures p names (λ (x : Cycle). waits_on x Ready) (last_initial p) last.begun (tells_later p names e f c.in_ok-still.still (λ (x : Cycle). waits_on x Ready) last.appends still.carries) last.carries in
    let first = appends_both d e g still.appends (appends_both e f g last.appends rest.appends) in
    let goes = c.in_ok-goes.ensures p names (is_ending p) (λ (x : Cycle). waits_on x Ready || last_initial p x) rest.begun (tells_later p names d g c.args.ended (is_ending p) first ended) rest.carries in
    IfOk-weaker c.except-2.result _ _
    (λ a made. carries_as p names d k 1 a _ (λ (x : Cycle). bit (next_ready p x)) (λ (x : Cycle). ap bit (ready_behind p x (λ e. c.if-cycles-eq0.false (cycles ∙ e))))
    (made_behind p names d h k 1 a (λ (x : Cycle). bit ((is_ending p x || (waits_on x Ready || last_initial p x)) && not (resets x))) (appends_both d g h first goes.appends) made))
    (c.except-2.ensures p names (λ (x : Cycle). is_ending p x || (waits_on x Ready || last_initial p x)) resets goes.begun goes.carries (reset_tells p names h goes.begun))
