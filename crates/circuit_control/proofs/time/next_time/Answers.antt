use Rattle.std.proofs.Common.{◌+◌, ◌%◌, ◌^◌, sym, ap, subst, arith}
use Rattle.std.specs.Prelude.{◌&&◌, not, if◌then◌else◌}
use Rattle.std.proofs.lemmas.Result.{IfOk-weaker}
use Rattle.std.proofs.lemmas.Nat.{pow_pos}
use Rattle.rtl_logic.specs.Making.{circuit}
use Rattle.rtl_logic.proofs.Making.{appends_both}
use Rattle.datapath.specs.Cycles.{Cycle, Time, resets}
use Rattle.datapath.specs.Control.{goes_on, next_time}
use Rattle.datapath.specs.CircuitWires.Carrying.{Carries}
use Rattle.datapath.proofs.Combining.{pick_carries, carries_as}
use Rattle.circuit_control.proofs.Telling.{reset_tells, tells_later, number_carries, made_behind}
use Rattle.circuit_control.proofs.time.next_time.Goals as goal

pub returns : goal.returns
returns c = λ p names context begun between same.
    let n = c.args.bits in
    let d = circuit c.args.logic.now in
    let e = circuit c.goes_on.new.logic in
    let f = circuit c.except.new.logic in
    let g = circuit c.counted.new.logic in
    let h = circuit c.pick.new.self in
    let going = c.in_ok-going.ensures p names context begun in
    let counts = c.in_ok-counts.ensures p names (goes_on p) resets going.begun going.carries (reset_tells p names e going.begun) in
    let time : Carries p names f n c.in_ok-time.time (λ (x : Cycle). x.regs Time) = subst (λ m. Carries p names f m c.in_ok-time.time (λ (x : Cycle). x.regs Time)) (sym same) (c.in_ok-time.ensures p names f context counts.begun) in
    let later = c.in_ok-later.ensures p names (λ (x : Cycle). x.regs Time) counts.begun between time in
    let test = tells_later p names f g c.in_ok-counts.counts (λ (x : Cycle). goes_on p x && not (resets x)) later.appends counts.carries in
    let zero_ = number_carries p names g n 0 c.constant.result between (pow_pos n) c.constant.ensures in
    let first = appends_both d e g going.appends (appends_both e f g counts.appends later.appends) in
    IfOk-weaker c.pick.result _ _
    (λ a made. carries_as p names d h n a (λ (x : Cycle). if goes_on p x && not (resets x) then (x.regs Time + 1) % 2 ^ n else 0) (next_time p)
    (λ (x : Cycle). ap (λ m. if goes_on p x && not (resets x) then (x.regs Time + 1) % 2 ^ m else 0) same)
    (made_behind p names d g h n a _ first
    (pick_carries p names g h n c.in_ok-counts.counts c.in_ok-later.later c.constant.result a (λ (x : Cycle). goes_on p x && not (resets x)) (λ (x : Cycle). (x.regs Time + 1) % 2 ^ n) (λ (x : Cycle). 0) later.begun test later.carries zero_ made)))
    (c.pick.ensures n later.begun.sound (between.0, omega (arith, between.1)) test.fits later.carries.fits zero_.fits)
