use Rattle.std.proofs.Common.{◌≡◌, ◌∙◌, sym, subst, arith}
use Rattle.std.proofs.lemmas.Nat.{pow_pos}
use Rattle.rtl_core.specs.ClockStep.{widths}
use Rattle.rtl_core.specs.Valid.{HasBits, IsBetween}
use Rattle.rtl_logic.specs.Making.{circuit}
use Rattle.rtl_logic.proofs.Making.{appended, fits_later}
use Rattle.datapath.specs.Cycles.{Word}
use Rattle.circuit_context.specs.declared.wanted.role.Target.TheVariants as t
use Rattle.circuit_units.proofs.MemoriesLemmas.Demands.{refusals_wanted}
use Rattle.circuit_units.proofs.MemoriesLemmas.Chosen.{whens, bits_fit, refused_tells, number_carries}
use Rattle.circuit_units.proofs.MemoriesLemmas.Outer.{bank_register}
use Rattle.circuit_units.proofs.MemoriesLemmas.Registers.{word_set}
use Rattle.circuit_units.proofs.memories.words.set_word.Goals as goal

pub returns : goal.returns
returns c = λ p names address ready place reads tells.
    let d = circuit c.args.logic.now in
    let e = circuit c.any.new.self in
    let f = circuit c.pick.new.self in
    let g = circuit c.set.new.self in
    let id = c.args.place.array in
    let n = c.args.place.port in
    let bits = c.args.place.bits in
    let choices = c.choices.result.now in
    let atoms = c.deref.result.now in
    let small : IsBetween 1 128 bits = (place.wide.0, omega (arith, place.wide.1)) in
    let refusals = refusals_wanted p names d ready.pushes choices id n ready.are (c.choices.ensures ∙ ready.held (t.Refused id n)) in
    let are : atoms ≡ whens choices = c.deref.ensures.value ∙ c.in_ok-bits.ensures in
    let refused = refused_tells p names d e id.0 n choices atoms c.in_ok-refused.refused ready.begun refusals are (c.in_ok-refused.ensures ready.begun.sound (bits_fit d 1 choices atoms refusals.fit are)) in
    let longer = appended d e refused.appends in
    let none = number_carries p names e bits 0 c.constant.result small (pow_pos bits) c.constant.ensures in
    let word : HasBits (widths e) bits c.args.read.word = fits_later d e longer bits c.args.read.word (subst (λ k. HasBits (widths d) k c.args.read.word) (sym place.bits) reads.fits) in
    word_set p names d e f g id.0 n bits address c.args.read.word c.args.read.when c.in_ok-register.register c.in_ok-refused.refused c.constant.result c.in_ok-next.next ready.begun ready.distinct place.wide place.bits
    (bank_register p names c.args.of.now c.in_ok-register.register (Word id.0 n) ready.context c.in_ok-register.ensures) reads tells refused c.constant.ensures
    (c.in_ok-next.ensures bits refused.begun.sound small refused.carries.fits none.fits word) c.set.ensures
