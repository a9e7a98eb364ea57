use Rattle.std.proofs.Common.{◌^◌}
use Rattle.std.specs.Prelude.{◌==◌, nat_lt}
use Rattle.std.proofs.lemmas.Result.{IfOk-weaker}
use Rattle.rtl_core.specs.Interface.{select_of, address_of}
use Rattle.rtl_logic.specs.Making.{circuit}
use Rattle.rtl_logic.proofs.Making.{appended, appends_both}
use Rattle.datapath.specs.Cycles.{Cycle}
use Rattle.datapath.proofs.Combining.{and_tells, carries_on}
use Rattle.circuit_units.proofs.MemoriesLemmas.Outer.{makes_behind}
use Rattle.circuit_units.proofs.memories.outside.names_element.Goals as goal

pub returns : goal.returns
returns c = λ p names begun between.
    let d = circuit c.args.logic.now in
    let e = circuit c.is_named.new.logic in
    let f = circuit c.is_within.new.logic in
    let one = c.in_ok-named.ensures p names begun in
    let two = c.in_ok-within.ensures p names one.begun between in
    let named = carries_on p names e f 1 c.in_ok-named.named _ (appended e f two.appends) one.carries in
    IfOk-weaker c.and.result _ _ (λ a made.
    makes_behind p names d f (circuit c.and.new.self) 1 a _ (appends_both d e f one.appends two.appends)
    (and_tells p names f (circuit c.and.new.self) c.in_ok-named.named c.in_ok-within.within a (λ (x : Cycle). select_of x.pins == c.args.place.array.0) (λ (x : Cycle). nat_lt (address_of x.pins) (2 ^ c.args.place.depth))
    two.begun named two.carries made))
    (c.and.ensures two.begun.sound named.fits two.carries.fits)
