use Rattle.std.proofs.Common.{◌≡◌, ◌+◌, ◌-◌, ◌%◌, ◌^◌, true, refl, sym, ap, ◌∙◌, subst, arith}
use Rattle.std.specs.Prelude.{◌||◌, not, if◌then◌else◌}
use Rattle.std.proofs.lemmas.Nat.{pow_pos}
use Rattle.std.proofs.lemmas.Result.{on_ok_weaker}
use Rattle.rtl_core.specs.Valid.{IsBetween}
use Rattle.rtl_logic.specs.Making.{circuit}
use Rattle.rtl_logic.proofs.Making.{appends_both}
use Rattle.datapath.specs.Plans.{Plan, bits_of}
use Rattle.datapath.specs.Cycles.{Cycle, Gate, Waited, holds}
use Rattle.datapath.specs.Control.{greatest_wait, is_loading, wait_bits}
use Rattle.datapath.specs.CircuitWires.Carrying.{Carries}
use Rattle.datapath.proofs.Combining.{pick_carries}
use Rattle.circuit_context.proofs.WantedLemmas.Joining.{logs_none, logs_behind}
use Rattle.circuit_control.proofs.Telling.{one_tells, number_carries, tells_later}
use Rattle.circuit_control.proofs.Pieces.{logs_as, no_waiting, some_waiting}
use Rattle.circuit_control.proofs.loops.write_waited.Goals as goal

pub returns-then-bits-eq0 : goal.returns-then-bits-eq0
returns-then-bits-eq0 c = λ p names context begun load.
    let d = circuit c.args.logic.now in
    let greatest = c.greatest_wait.ensures p (ap (λ (q : Plan). q.program) context.plan) in
    let count : c.saturating_sub.result ≡ greatest_wait p - 1 = omega (arith, c.saturating_sub.ensures, greatest) in
    let same : c.bits_of-bits.result ≡ wait_bits p = c.bits_of-bits.ensures.value ∙ ap bits_of count in
    logs_as p names d d c.args.log.now.pushes.items c.args.log.now.pushes.items _ _ (no_waiting p (sym same ∙ c.if-bits-eq0.true)) (logs_none p names d c.args.log.now.pushes.items begun)

pub returns : goal.returns
returns c = λ p names context begun load.
    let d = circuit c.args.logic.now in
    let e = circuit c.except.new.logic in
    let f = circuit c.either.new.logic in
    let g = circuit c.counted.new.logic in
    let h = circuit c.pick.new.self in
    let first = c.args.log.now.pushes.items in
    let last = c.write.new.log.pushes.items in
    let n = c.bits_of-bits.result in
    let greatest = c.greatest_wait.ensures p (ap (λ (q : Plan). q.program) context.plan) in
    let count : c.saturating_sub.result ≡ greatest_wait p - 1 = omega (arith, c.saturating_sub.ensures, greatest) in
    let same : n ≡ wait_bits p = c.bits_of-bits.ensures.value ∙ ap bits_of count in
    let between : IsBetween 1 64 n = (omega (arith, c.if-bits-eq0.false), c.bits_of-bits.ensures.bound) in
    let running = c.in_ok-running.ensures p names d context begun refl in
    let failed = c.in_ok-failed.ensures p names (λ (x : Cycle). true) (λ (x : Cycle). holds x (Gate 0)) begun (one_tells p names d c.constant.result c.constant.ensures) running in
    let when = c.in_ok-when.ensures p names (is_loading p) (λ (x : Cycle). not (holds x (Gate 0))) failed.begun (tells_later p names d e c.args.load (is_loading p) failed.appends load) failed.carries in
    let waited : Carries p names f n c.in_ok-waited.waited (λ (x : Cycle). x.regs Waited) = subst (λ m. Carries p names f m c.in_ok-waited.waited (λ (x : Cycle). x.regs Waited)) (sym same) (c.in_ok-waited.ensures p names f context when.begun) in
    let later = c.in_ok-later.ensures p names (λ (x : Cycle). x.regs Waited) when.begun between waited in
    let before = appends_both d f g (appends_both d e f failed.appends when.appends) later.appends in
    let test = tells_later p names d g c.args.load (is_loading p) before load in
    let zero_ = number_carries p names g n 0 c.constant-2.result between (pow_pos n) c.constant-2.ensures in
    let made = c.in_ok-value.ensures n later.begun.sound (between.0, omega (arith, between.1)) test.fits zero_.fits later.carries.fits in
    let value = pick_carries p names g h n c.args.load c.constant-2.result c.in_ok-later.later c.in_ok-value.value (is_loading p) (λ (x : Cycle). 0) (λ (x : Cycle). (x.regs Waited + 1) % 2 ^ n) later.begun test zero_ later.carries made in
    let taken : Carries p names h (wait_bits p) c.in_ok-value.value (λ (x : Cycle). if is_loading p x then 0 else (x.regs Waited + 1) % 2 ^ wait_bits p) =
    subst (λ m. Carries p names h m c.in_ok-value.value (λ (x : Cycle). if is_loading p x then 0 else (x.regs Waited + 1) % 2 ^ m)) same value.carries in
    let wanted = tells_later p names f h c.in_ok-when.when (λ (x : Cycle). is_loading p x || not (holds x (Gate 0))) (appends_both f g h later.appends value.appends) when.carries in
    on_ok_weaker c.write.result
    (λ log. logs_as p names d h first last _ _ (some_waiting p (λ none. c.if-bits-eq0.false (same ∙ none))) (logs_behind p names d h h first last _ (appends_both d g h before value.appends) log))
    (c.write.ensures p names h (λ (x : Cycle). is_loading p x || not (holds x (Gate 0))) (λ (x : Cycle). if is_loading p x then 0 else (x.regs Waited + 1) % 2 ^ wait_bits p) context value.begun wanted taken)
