use Rattle.std.proofs.Common.{◌∙◌, ap, sym, subst, arith}
use Rattle.std.specs.Prelude.{◌&&◌, ◌||◌, not}
use Rattle.rtl_core.specs.Valid.{IsBetween}
use Rattle.rtl_logic.specs.Making.{circuit}
use Rattle.rtl_logic.specs.Choosing.{is_any_wanted}
use Rattle.rtl_logic.proofs.Making.{appended, appends_both, goes_on}
use Rattle.datapath.specs.Cycles.{resets, bit}
use Rattle.datapath.specs.Ports.{stores, address_writes, stored_writes, is_enabled, outside_address, outside_word, outside_writes}
use Rattle.datapath.specs.CircuitWires.Carrying.{CarriesWanted}
use Rattle.datapath.proofs.Combining.{carries_as}
use Rattle.circuit_context.specs.declared.wanted.role.Target.TheVariants as t
use Rattle.circuit_units.specs.Memories.Places.{AreChoices, IsOtherValue}
use Rattle.circuit_units.proofs.MemoriesLemmas.Demands.{addresses_wanted, stores_wanted, any_stored}
use Rattle.circuit_units.proofs.MemoriesLemmas.Chosen.{choices_later, wanted_later}
use Rattle.circuit_units.proofs.MemoriesLemmas.Arrays.{access_later}
use Rattle.circuit_units.proofs.memories.ports.make_port.Goals as goal

pub returns : goal.returns
returns c = λ p names ready place access.
    let d = circuit c.args.logic.now in
    let e = circuit c.chosen.new.logic in
    let f = circuit c.chosen-2.new.logic in
    let g = circuit c.enabled.new.logic in
    let id = c.args.place.array in
    let a = id.0 in
    let n = c.args.place.port in
    let wide = place.wide in
    let small : IsBetween 1 128 c.args.place.bits = (wide.0, omega (arith, wide.1)) in
    let low : IsBetween 1 128 c.args.place.depth = (place.deep.0, omega (arith, place.deep.1)) in
    let addresses : AreChoices p names d c.args.place.depth c.choices-addresses.result.now (λ x. address_writes p x a n) =
    subst (λ k. AreChoices p names d k c.choices-addresses.result.now (λ x. address_writes p x a n)) (sym place.depth_)
    (addresses_wanted p names d ready.pushes c.choices-addresses.result.now id n ready.are (c.choices-addresses.ensures ∙ ready.held (t.Address id n))) in
    let values : AreChoices p names d c.args.place.bits c.choices-values.result.now (λ x. stored_writes p x a n) =
    subst (λ k. AreChoices p names d k c.choices-values.result.now (λ x. stored_writes p x a n)) (sym place.bits)
    (stores_wanted p names d ready.pushes c.choices-values.result.now id n ready.are (c.choices-values.ensures ∙ ready.held (t.Stored id n))) in
    let one = c.in_ok-addr.ensures p names (λ x. address_writes p x a n) (λ x. outside_address p x a n) ready.begun low addresses
    (subst (λ k. IsOtherValue p names d k c.address_outside.result (λ x. outside_address p x a n)) (sym place.depth_) (c.address_outside.ensures p names d a n access)) in
    let to_e = appended d e one.appends in
    let access_e = access_later p names d e a n c.args.outside to_e access in
    let two = c.in_ok-value.ensures p names (λ x. stored_writes p x a n) (λ x. outside_word p x a n) one.begun small (choices_later p names d e c.args.place.bits c.choices-values.result.now _ to_e values)
    (subst (λ k. IsOtherValue p names e k c.value_outside.result (λ x. outside_word p x a n)) (sym place.bits) (c.value_outside.ensures p names e a n access_e)) in
    let to_f = appended e f two.appends in
    let both = goes_on d e f to_e to_f in
    let three = c.in_ok-enable.ensures p names c.args.place.bits (λ x. stored_writes p x a n) (λ x. outside_writes p x a n) two.begun (choices_later p names d f c.args.place.bits c.choices-values.result.now _ both values)
    (c.enable_outside.ensures p names f a n (access_later p names e f a n c.args.outside to_f access_e)) in
    let to_g = appended f g three.appends in
    let last = goes_on e f g to_f to_g in
    record {
      appends = appends_both d e g one.appends (appends_both e f g two.appends three.appends);
      begun = three.begun;
      is = record {
        addr = subst (λ k. CarriesWanted p names g k c.in_ok-addr.addr (λ x. address_writes p x a n) (λ x. outside_address p x a n)) place.depth_ (wanted_later p names e g c.args.place.depth c.in_ok-addr.addr _ _ last one.carries);
        value = subst (λ k. CarriesWanted p names g k c.in_ok-value.value (λ x. stored_writes p x a n) (λ x. outside_word p x a n)) place.bits (wanted_later p names f g c.args.place.bits c.in_ok-value.value _ _ to_g two.carries);
        enable = (carries_as p names f g 1 c.in_ok-enable.enable (λ x. bit ((is_any_wanted (stored_writes p x a n) || outside_writes p x a n) && not (resets x))) (λ x. bit (is_enabled p x a n))
            (λ x. ap (λ b. bit ((b || outside_writes p x a n) && not (resets x))) (any_stored p x (stores p a n))) three).carries;
      };
    }
