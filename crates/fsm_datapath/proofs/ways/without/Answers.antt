use Rattle.std.proofs.Common.{arith}
use Rattle.std.specs.Prelude.{not, ◌&&◌}
use Rattle.std.proofs.lemmas.Result.{IfOk-weaker}
use Rattle.rtl_logic.specs.Making.{circuit}
use Rattle.rtl_logic.proofs.Making.{appended, appends_both}
use Rattle.datapath.specs.Cycles.{Cycle, bit}
use Rattle.datapath.proofs.Combining.{and_tells, not_tells, carries_on}
use Rattle.fsm_datapath.proofs.Pushing.{tells_as}
use Rattle.fsm_datapath.proofs.ways.without.Goals as goal

pub returns : goal.returns
returns c = λ p names left right rest begun one other same.
    let d = circuit c.args.logic.now in
    let e = circuit c.not.new.self in
    let f = circuit c.and.new.self in
    let against = c.in_ok-against.against in
    let none = not_tells p names d e c.args.other against right begun other (c.in_ok-against.ensures 1 begun.sound (omega arith, omega arith) other.fits) in
    let first = carries_on p names d e 1 c.args.one (λ (x : Cycle). bit (left x)) (appended d e none.appends) one in
    IfOk-weaker c.and.result _ _
    (λ a made.
    let both = and_tells p names e f c.args.one against a left (λ (x : Cycle). not (right x)) none.begun first none.carries made in
    record {
      appends = appends_both d e f none.appends both.appends;
      begun = both.begun;
      carries = tells_as p names f a (λ (x : Cycle). left x && not (right x)) rest same both.carries;
    }) (c.and.ensures none.begun.sound first.fits none.carries.fits)
