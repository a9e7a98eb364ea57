use Rattle.std.proofs.Common.{◌≡◌, ◌-◌, sym, subst, arith}
use Rattle.std.specs.Prelude.{◌==◌}
use Rattle.std.specs.List.{All}
use Rattle.std.proofs.lemmas.Result.{IfOk-weaker}
use Rattle.rtl_core.specs.ClockStep.{bit_of, widths}
use Rattle.rtl_core.specs.Valid.{HasBits}
use Rattle.rtl_logic.specs.Choosing.{is_any}
use Rattle.rtl_logic.specs.Making.{circuit, Makes}
use Rattle.rtl_logic.proofs.Making.{appended, appends_both, fits_later}
use Rattle.datapath.specs.Cycles.{Cycle, Time}
use Rattle.datapath.proofs.Combining.{begun_after, not_tells}
use Rattle.circuit_control.proofs.Within.{short_group, long_group}
use Rattle.circuit_control.proofs.time.going_group.Goals as goal

pub returns : goal.returns
returns c = λ p names context begun fits.
    let group = c.args.group.now in
    let d = circuit c.args.logic.now in
    let e = circuit c.any.new.self in
    let f = circuit c.time_is.new.logic in
    let g = circuit c.not.new.self in
    let h = circuit c.and.new.self in
    let made = c.in_ok-active.ensures begun.sound (subst (All (HasBits (widths d) 1)) (sym c.deref.ensures.value) fits) in
    let some : Makes d e 1 c.in_ok-active.active (λ v x. x ≡ bit_of (is_any v group.active.items)) = subst (λ l. Makes d e 1 c.in_ok-active.active (λ v x. x ≡ bit_of (is_any v l))) c.deref.ensures.value made in
    let time = c.in_ok-last.ensures p names context (begun_after p names d e begun some.appends some.sound) in
    let against = not_tells p names f g c.in_ok-last.last c.in_ok-before.before (λ (x : Cycle). x.regs Time == group.span - 1) time.begun time.carries
    (c.in_ok-before.ensures 1 time.begun.sound (omega arith, omega arith) time.carries.fits) in
    let behind = appends_both e f g time.appends against.appends in
    IfOk-weaker c.and.result _ _ (λ a both. long_group p names d e f g h group c.in_ok-active.active c.in_ok-last.last c.in_ok-before.before a begun c.if-group-le1.false some time against both)
    (c.and.ensures against.begun.sound (fits_later e g (appended e g behind) 1 c.in_ok-active.active some.shows.fits) against.carries.fits)

pub returns-then-group-le1 : goal.returns-then-group-le1
returns-then-group-le1 c = λ p names context begun fits.
    short_group p names (circuit c.args.logic.now) c.constant.result c.args.group.now begun c.if-group-le1.true c.constant.ensures
