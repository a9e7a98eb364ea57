use Rattle.std.proofs.Common.{◌≡◌, ◌+◌, ◌-◌, subst, arith}
use Rattle.std.proofs.lemmas.List.Elements.{All-weaker}
use Rattle.std.proofs.lemmas.Result.{IfOk-weaker}
use Rattle.rtl_core.specs.ClockStep.{widths}
use Rattle.rtl_core.specs.Valid.{HasBits}
use Rattle.rtl_logic.specs.Making.{circuit}
use Rattle.rtl_logic.proofs.Making.{appended, fits_later}
use Rattle.rtl_logic.proofs.Leveling.{level_next}
use Rattle.rtl_logic.proofs.tables.next_level.Goals as goal

pub returns : goal.returns
returns c = λ d depth bits words between fit within most l.
    let e = circuit c.args.logic.now in
    let f = circuit c.part.new.self in
    let addr = c.args.addr in
    let low = c.args.place in
    let level = c.args.level.now in
    let test = c.in_ok-test.test in
    let one : low + 1 - low ≡ 1 = omega arith in
    let m = c.in_ok-test.ensures depth l.sound (fits_later d e (appended d e l.appends) depth addr fit) within (omega arith) (omega (arith, most)) in
    let fits = All-weaker (HasBits (widths e) bits) (HasBits (widths f) bits) (fits_later e f (appended e f m.appends) bits) level l.fits in
    IfOk-weaker c.picked.result _ _ (λ above h. level_next d e f (circuit c.picked.new.logic) depth bits addr words low level above.items test within l m h)
    (c.picked.ensures bits m.sound (between.0, omega (arith, between.1)) (subst (λ n. HasBits (widths f) n test) one m.shows.fits) fits)
