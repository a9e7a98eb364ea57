use Rattle.std.proofs.Common.{[], ◌∷◌, ◌+◌, ap, refl}
use Rattle.std.specs.Prelude.{ℕ, ◌&&◌, ◌||◌, ◌-◌, not}
use Rattle.std.proofs.lemmas.Result.{on_ok_weaker}
use Rattle.rtl_logic.specs.Choosing.{where_}
use Rattle.rtl_logic.specs.Making.{circuit}
use Rattle.datapath.specs.Cycles.{Cycle, bit}
use Rattle.datapath.specs.Reading.{has_passed}
use Rattle.datapath.specs.Control.{is_loading, ends_interval}
use Rattle.circuit_context.specs.declared.wanted.role.Role.TheVariants as role
use Rattle.circuit_context.specs.Wanted.Entries.{register_entry}
use Rattle.circuit_context.proofs.WantedLemmas.Joining.{logs_behind}
use Rattle.circuit_control.proofs.Telling.{tells_later, tells_as}
use Rattle.circuit_control.proofs.Pieces.{logs_as, stage_takes}
use Rattle.circuit_control.proofs.loops.write_stage.Goals as goal

pub returns : goal.returns
returns c = λ p names context begun load enable.
    let k = c.args.before in
    let d = circuit c.args.logic.now in
    let e = circuit c.except.new.logic in
    let first = c.args.log.now.pushes.items in
    let last = c.write.new.log.pushes.items in
    let reached = c.in_ok-reached.ensures p names d context begun in
    let value = c.in_ok-value.ensures p names (λ (x : Cycle). has_passed x k) (is_loading p) begun reached load in
    let taken = tells_as p names e c.in_ok-value.value (λ (x : Cycle). has_passed x k && not (is_loading p x)) (λ (x : Cycle). not (is_loading p x) && has_passed x (k + 1 - 1)) (λ (x : Cycle). stage_takes p x k) value.carries in
    let when = tells_later p names d e c.args.passing.enable (λ (x : Cycle). is_loading p x || ends_interval p x) value.appends enable in
    on_ok_weaker c.write.result
    (λ h. logs_as p names d e first last _ _
    refl
    (logs_behind p names d e e first last _ value.appends h))
    (c.write.ensures p names e (λ (x : Cycle). is_loading p x || ends_interval p x) (λ (x : Cycle). bit (not (is_loading p x) && has_passed x (k + 1 - 1))) context value.begun when taken)
