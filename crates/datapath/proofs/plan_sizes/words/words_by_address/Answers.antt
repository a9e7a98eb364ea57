use Rattle.std.proofs.Common.{◌≡◌, ◌^◌, ◌<◌, ◌≤◌, ℕ, List, ◌++◌, take, drop, length, replicate, get_or, sym, ap, ◌∙◌, subst, arith}
use Rattle.std.proofs.Math.Nat.{pow-le-pow_right}
use Rattle.std.proofs.lemmas.List.{length-replicate}
use Rattle.hls_base.specs.ArrayAddress.{address_bits, addresses}
use Rattle.ir_core.specs.AddressWords.{AreShort, AreRising, in_words}
use Rattle.ir_core.proofs.Rising.{addresses-rise, rising-words}
use Rattle.ir_core.specs.FirstContents.{given_at}
use Rattle.flat_programs.specs.Memory.Filling.{filled}
use Rattle.flat_programs.proofs.MemoryLemmas.Banks.{zero_words, written_back}
use Rattle.flat_programs.proofs.MemoryLemmas.Filled.{filled-at, length-filled}
use Rattle.datapath.proofs.Numbers.{small_power}
use Rattle.datapath.proofs.plan_sizes.words.words_by_address.Goals as goal

words_are : (bits : ℕ) (dims : List ℕ) → bits < 64 → AreShort dims → address_bits dims ≤ bits → in_words (addresses dims) ≡ addresses dims
words_are bits dims few short fits =
    let below : address_bits dims ≤ 64 = omega arith in
    let power : 2 ^ address_bits dims ≤ 2 ^ 64 = pow-le-pow_right (omega arith) below in
    rising-words 0 (2 ^ address_bits dims) (addresses dims) power (addresses-rise dims short)

filled_words : (n m bits : ℕ) (dims places given zeros new : List ℕ) (a : ℕ) → bits < 64 → AreShort dims → address_bits dims ≤ bits → places ≡ in_words (addresses dims) → n ≡ m → m ≡ 2 ^ bits → zeros ≡ replicate m 0
    → new ≡ filled places given zeros → get_or (take n (new ++ drop (length new) zeros)) a 0 ≡ given_at (addresses dims) given a 0
filled_words n m bits dims places given zeros new a few short fits p same whole z e =
    let at_ : places ≡ addresses dims = p ∙ words_are bits dims few short fits in
    let all : length zeros ≡ n = ap length z ∙ length-replicate m 0 ∙ sym same in
    let count : length new ≡ n = ap length e ∙ length-filled places given zeros ∙ all in
    let none : get_or zeros a 0 ≡ 0 = ap (λ l. get_or l a 0) z ∙ zero_words m a in
    let power : 2 ^ address_bits dims ≤ 2 ^ bits = pow-le-pow_right (omega arith) fits in
    let rise : AreRising 0 places (2 ^ address_bits dims) = subst (λ l. AreRising 0 l (2 ^ address_bits dims)) (sym at_) (addresses-rise dims short) in
    ap (λ l. get_or l a 0) (written_back n new zeros count ∙ e) ∙ filled-at 0 (2 ^ address_bits dims) places given zeros a rise (omega (arith, all, same, whole, power))
    ∙ ap (given_at places given a) none ∙ ap (λ l. given_at l given a 0) at_

pub returns-clause-words : goal.returns-clause-words
returns-clause-words c = λ few short fits place.
    let dims = c.args.memory.now.dims.items in
    let own : c.deref-2.result.now ≡ dims = c.deref-2.ensures.value ∙ c.in_ok-lengths.ensures ∙ c.deref.ensures.value in
    let places : c.in_ok-places.places.items ≡ in_words (addresses dims) = c.in_ok-places.ensures ∙ ap (λ ds. in_words (addresses ds)) own in
    let depth = small_power c.args.bits c.unwrap_or-depth.result 0 c.checked_shl.result few c.checked_shl.ensures c.unwrap_or-depth.ensures in
    let new_is : c.fill.new.words ≡ filled c.in_ok-places.places.items c.args.elements.now c.in_ok-words.words.items =
    c.fill.ensures ∙ ap (λ ps. filled ps c.args.elements.now c.deref_mut.result.now) c.deref-3.ensures.value ∙ ap (filled c.in_ok-places.places.items c.args.elements.now) c.deref_mut.ensures.value in
    ap (λ (ws : List ℕ). get_or ws place 0) c.new.ensures
    ∙ filled_words c.in_ok-words.words.len c.unwrap_or-depth.result c.args.bits dims c.in_ok-places.places.items c.args.elements.now c.in_ok-words.words.items c.fill.new.words place few short fits
    places c.in_ok-words.ensures.len depth (c.in_ok-words.ensures.items_if_clones_equal (λ y e. e)) new_is
