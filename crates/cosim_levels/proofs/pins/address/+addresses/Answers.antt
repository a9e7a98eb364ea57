use Rattle.std.proofs.Common.{◌≡◌, IfOk, ◌∙◌, subst, refl}
use Rattle.cosim_levels.proofs.PinsLemmas.AddressWords.{addresses_words}
use Rattle.cosim_levels.proofs.pins.address.+addresses.Goals as goal

pub returns-in_ok-row-in-Some : goal.returns-in_ok-row-in-Some
returns-in_ok-row-in-Some t c =
    let row_is = c.deref.ensures.value ∙ c.in_ok-row-in-Some.ensures in
    let same = addresses_words c.in-Some.length.now c.in-Some.inner.now c.row_size.result c.deref.result.now _ c.args.lengths.now c.in-Some.ensures.cases.0 c.row_size.ensures row_is refl in
    subst (λ x. IfOk c.rows.result (λ v. v.items ≡ x)) same c.rows.ensures
