use Rattle.std.proofs.Common.{◌≡◌, ◌∙◌, ◌<◌, ◌^◌, length, ap, sym, subst, arith}
use Rattle.std.specs.Prelude.{is_some}
use Rattle.std.specs.List.{All}
use Rattle.std.proofs.lemmas.Bool.{or_left}
use Rattle.std.proofs.lemmas.Nat.{pow_pos}
use Rattle.rtl_core.specs.Valid.{IsBetween}
use Rattle.rtl_logic.specs.Making.{circuit}
use Rattle.rtl_logic.proofs.Making.{appended, appends_both, goes_on}
use Rattle.datapath.specs.Plans.{array_at}
use Rattle.datapath.specs.Cycles.{bit}
use Rattle.datapath.specs.Ports.{address_writes, outside_address, is_reading}
use Rattle.datapath.specs.CircuitWires.Carrying.{CarriesWanted, Tells}
use Rattle.datapath.proofs.Combining.{begun_after}
use Rattle.circuit_context.specs.declared.wanted.role.Target.TheVariants as t
use Rattle.circuit_units.specs.Memories.Places.{AreChoices}
use Rattle.circuit_units.proofs.MemoriesLemmas.Demands.{addresses_wanted}
use Rattle.circuit_units.proofs.MemoriesLemmas.Chosen.{wanted_later, number_carries}
use Rattle.circuit_units.proofs.MemoriesLemmas.Outer.{table_read, nothing_stored}
use Rattle.circuit_units.proofs.MemoriesLemmas.Unstored.{nothing_wanted}
use Rattle.circuit_units.proofs.MemoriesLemmas.Arrays.{ready_later}
use Rattle.circuit_units.proofs.MemoriesLemmas.Steps.{sets_behind}
use Rattle.circuit_units.proofs.memories.tables.table_port.Goals as goal

pub returns : goal.returns
returns c = λ p names elements ready place inside table words.
    let d = circuit c.args.logic.now in
    let e = circuit c.chosen.new.logic in
    let f = circuit c.table_word.new.logic in
    let g = circuit c.set_word.new.logic in
    let id = c.args.place.array in
    let a = id.0 in
    let n = c.args.place.port in
    let bits = c.args.place.bits in
    let depth_ = c.args.place.depth in
    let small : IsBetween 1 128 bits = (place.wide.0, omega (arith, place.wide.1)) in
    let low : IsBetween 1 128 depth_ = (place.deep.0, omega (arith, place.deep.1)) in
    let choices = c.choices-addresses.result.now in
    let stores = nothing_wanted p names c.args.of.now a n elements place.there table ready.context in
    let addresses : AreChoices p names d depth_ choices (λ x. address_writes p x a n) =
    subst (λ k. AreChoices p names d k choices (λ x. address_writes p x a n)) (sym place.depth_)
    (addresses_wanted p names d ready.pushes choices id n ready.are (c.choices-addresses.ensures ∙ ready.held (t.Address id n))) in
    let made = c.in_ok-address.ensures p names (λ x. address_writes p x a n) (λ x. outside_address p x a n) ready.begun low addresses inside.addr in
    let to_e = appended d e made.appends in
    let count : length c.args.words.now ≡ 2 ^ depth_ = words.count ∙ ap (λ k. 2 ^ k) (sym place.depth_) in
    let fit : All (λ w. w < 2 ^ bits) c.args.words.now = subst (λ k. All (λ w. w < 2 ^ k) c.args.words.now) (sym place.bits) words.fit in
    let word = c.in_ok-word.ensures depth_ made.begun.sound place.wide made.carries.fits count fit in
    let to_f = appended e f word.appends in
    let begun_f = begun_after p names e f made.begun word.appends word.sound in
    let reads = table_read p names e f a bits elements c.args.words.now c.in_ok-address.address c.in_ok-word.word place.bits table words word in
    let one = number_carries p names f 1 1 c.constant-when.result (omega arith, omega arith) (omega arith) c.constant-when.ensures in
    let when : Tells p names f c.constant-when.result (λ x. is_reading p x a n) = record {
      fits = one.fits;
      value_ = λ h s pins x signals m. one.value_ h s pins x signals m ∙ sym (ap bit (or_left (is_some (array_at p a).table) _ (ap is_some table)));
    } in
    let sets = c.in_ok-set_word.ensures p names c.in_ok-address.address (ready_later p names c.args.of.now c.args.groups.now d f (goes_on d e f to_e to_f) begun_f ready) place reads when in
    let none = number_carries p names d bits 0 c.constant-stored.result small (pow_pos bits) c.constant-stored.ensures in
    record {
      sets = sets_behind p names d f g a n c.in_ok-address.address (appends_both d e f made.appends word.appends) sets;
      shown = record {
        address = subst (λ k. CarriesWanted p names g k c.in_ok-address.address (λ x. address_writes p x a n) (λ x. outside_address p x a n)) place.depth_
            (wanted_later p names e g depth_ c.in_ok-address.address _ _ (goes_on e f g to_f sets.extends) made.carries);
        stored = wanted_later p names d g (array_at p a).bits c.constant-stored.result _ _ (goes_on d f g (goes_on d e f to_e to_f) sets.extends)
            (nothing_stored p names d a n bits c.constant-stored.result stores inside.value place.bits none.fits);
      };
    }
