use Rattle.std.proofs.Common.{refl, ap, subst}
use Rattle.std.specs.Prelude.{◌||◌, ◌&&◌, not, ◌<◌}
use Rattle.std.proofs.lemmas.Result.{IfOk-weaker}
use Rattle.rtl_logic.specs.Making.{circuit}
use Rattle.rtl_logic.proofs.Making.{appends_both}
use Rattle.datapath.specs.Cycles.{Cycle, Initial, holds, bit, resets}
use Rattle.datapath.specs.Control.{last_initial, next_initial}
use Rattle.datapath.proofs.Combining.{carries_as}
use Rattle.circuit_control.proofs.Telling.{reset_tells, made_behind}
use Rattle.circuit_control.proofs.Pieces.{initial_next}
use Rattle.circuit_control.proofs.control.next_initial.Goals as goal

pub returns : goal.returns
returns c = λ p names context begun same some.
    let d = circuit c.args.logic.now in
    let e = circuit c.last_initial.new.logic in
    let f = circuit c.except.new.logic in
    let g = circuit c.either.new.logic in
    let last = c.in_ok-last.ensures p names context begun same in
    let initial = c.in_ok-initial.ensures p names e context last.begun refl in
    let still = c.in_ok-still.ensures p names (λ (x : Cycle). holds x Initial) (last_initial p) last.begun initial last.carries in
    IfOk-weaker c.either.result _ _
    (λ a made. carries_as p names d g 1 a (λ (x : Cycle). bit ((holds x Initial && not (last_initial p x)) || resets x)) (λ (x : Cycle). bit (next_initial p x))
    (λ (x : Cycle). ap bit (initial_next p x (subst (λ n. 0 < n) same some)))
    (made_behind p names d f g 1 a (λ (x : Cycle). bit ((holds x Initial && not (last_initial p x)) || resets x)) (appends_both d e f last.appends still.appends) made))
    (c.either.ensures p names (λ (x : Cycle). holds x Initial && not (last_initial p x)) resets still.begun still.carries (reset_tells p names f still.begun))
