use Rattle.std.proofs.Common.{◌≡◌, ◌-◌, refl, ap, arith}
use Rattle.std.specs.Prelude.{◌==◌}
use Rattle.std.proofs.lemmas.Result.{IfOk-weaker}
use Rattle.rtl_logic.specs.Making.{circuit}
use Rattle.datapath.specs.Plans.{initial_cycles}
use Rattle.datapath.specs.Cycles.{Cycle, Initial, Time, holds, bit}
use Rattle.datapath.specs.Control.{last_initial}
use Rattle.circuit_control.proofs.Telling.{tells_later, tells_as, made_behind}
use Rattle.circuit_control.proofs.control.last_initial.Goals as goal

pub returns : goal.returns
returns c = λ p names context begun same.
    let d = circuit c.args.logic.now in
    let e = circuit c.time_is.new.logic in
    let f = circuit c.both.new.logic in
    let initial = c.in_ok-initial.ensures p names d context begun refl in
    let time = c.in_ok-last.ensures p names context begun in
    let count : c.saturating_sub.result ≡ initial_cycles p - 1 = omega (arith, c.saturating_sub.ensures, same) in
    let last = tells_as p names e c.in_ok-last.last (λ (x : Cycle). x.regs Time == c.saturating_sub.result) (λ (x : Cycle). x.regs Time == initial_cycles p - 1) (λ (x : Cycle). ap (λ n. x.regs Time == n) count) time.carries in
    IfOk-weaker c.both.result _ _ (λ a made. made_behind p names d e f 1 a (λ (x : Cycle). bit (last_initial p x)) time.appends made)
    (c.both.ensures p names (λ (x : Cycle). holds x Initial) (λ (x : Cycle). x.regs Time == initial_cycles p - 1) time.begun (tells_later p names d e c.in_ok-initial.initial (λ (x : Cycle). holds x Initial) time.appends initial) last)
