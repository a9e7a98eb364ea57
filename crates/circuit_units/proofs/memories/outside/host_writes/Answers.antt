use Rattle.std.proofs.Common.{◌^◌, ap}
use Rattle.std.specs.Prelude.{◌==◌, ◌&&◌, nat_lt, not}
use Rattle.std.proofs.lemmas.Result.{IfOk-weaker}
use Rattle.rtl_core.specs.Interface.{enable_of, write_of, select_of, address_of}
use Rattle.rtl_logic.specs.Making.{circuit}
use Rattle.rtl_logic.proofs.Making.{appended, appends_both, goes_on}
use Rattle.datapath.specs.Cycles.{Cycle, Ready, holds, starts, bit}
use Rattle.datapath.specs.Ports.{host_writes}
use Rattle.datapath.proofs.Combining.{and_tells, carries_on, carries_as}
use Rattle.circuit_units.proofs.MemoriesLemmas.Outer.{makes_behind}
use Rattle.circuit_units.proofs.memories.outside.host_writes.Goals as goal

pub returns : goal.returns
returns c = λ p names context begun place.
    let d = circuit c.args.logic.now in
    let e = circuit c.waits.new.logic in
    let f = circuit c.writes.new.logic in
    let g = circuit c.names_element.new.logic in
    let h = circuit c.and.new.self in
    let a = c.args.place.array.0 in
    let one = c.in_ok-waits.ensures p names context begun in
    let two = c.in_ok-writes.ensures p names one.begun in
    let three = c.in_ok-named.ensures p names two.begun place.deep in
    let to_f = appended e f two.appends in
    let to_g = appended f g three.appends in
    let writes = carries_on p names f g 1 c.in_ok-writes.writes _ to_g two.carries in
    let four = and_tells p names g h c.in_ok-writes.writes c.in_ok-named.named c.in_ok-written.written (λ (x : Cycle). (enable_of x.pins == 1) && (write_of x.pins == 1))
    (λ (x : Cycle). (select_of x.pins == a) && nat_lt (address_of x.pins) (2 ^ c.args.place.depth)) three.begun writes three.carries (c.in_ok-written.ensures three.begun.sound writes.fits three.carries.fits) in
    let to_h = appended g h four.appends in
    let waits = carries_on p names e h 1 c.in_ok-waits.waits _ (goes_on e g h (goes_on e f g to_f to_g) to_h) one.carries in
    let all = appends_both d e h one.appends (appends_both e f h two.appends (appends_both f g h three.appends four.appends)) in
    IfOk-weaker c.and-2.result _ _ (λ b made.
    let k = circuit c.and-2.new.self in
    carries_as p names d k 1 b _ (λ x. bit (host_writes p x a))
    (λ x. ap (λ n. bit ((holds x Ready && not (starts x)) && (((enable_of x.pins == 1) && (write_of x.pins == 1)) && ((select_of x.pins == a) && nat_lt (address_of x.pins) (2 ^ n))))) place.depth_)
    (makes_behind p names d h k 1 b _ all
    (and_tells p names h k c.in_ok-waits.waits c.in_ok-written.written b (λ x. holds x Ready && not (starts x))
    (λ (x : Cycle). ((enable_of x.pins == 1) && (write_of x.pins == 1)) && ((select_of x.pins == a) && nat_lt (address_of x.pins) (2 ^ c.args.place.depth))) four.begun waits four.carries made)))
    (c.and-2.ensures four.begun.sound waits.fits four.carries.fits)
