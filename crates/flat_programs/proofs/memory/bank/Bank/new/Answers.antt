use Rattle.std.proofs.Common.{◌≡◌, ◌≤◌, ◌<◌, ◌-◌, ◌^◌, ◌%◌, ◌*◌, ℕ, List, sym, ap, ◌∙◌, subst, refl, arith, map, get_or, length, replicate, take, drop, ◌++◌, []}
use Rattle.std.proofs.Math.Nat.{pow-le-pow_right}
use Rattle.std.proofs.lemmas.List.{length-replicate}
use Rattle.hls_base.specs.ArrayAddress.{address_bits, addresses, subscript_bits}
use Rattle.ir_core.specs.AddressWords.{AreShort, AreRising, in_words}
use Rattle.ir_core.proofs.Rising.{addresses-rise, rising-words}
use Rattle.std.specs.Prelude.{if◌then◌else◌}
use Rattle.ir_core.specs.FirstContents.{given_at, elements_or_none}
use Rattle.flat_programs.specs.Memory.Filling.{filled}
use Rattle.flat_programs.proofs.MemoryLemmas.Banks.{depth_is, zero_words, written_back}
use Rattle.flat_programs.proofs.MemoryLemmas.Filled.{first-filled, length-filled}
use Rattle.flat_programs.proofs.memory.bank.Bank.new.Goals as goal

-- what was tested of the lengths
few : (depth : ℕ) (seen lengths : List ℕ) → depth ≤ 32 → (depth < 2 ^ 32 - 1 → depth ≡ address_bits seen) → seen ≡ lengths → depth ≡ address_bits lengths
few depth seen lengths h e s = e (omega arith) ∙ ap address_bits s

words_are : (dims : List ℕ) → AreShort dims → address_bits dims ≤ 32 → in_words (addresses dims) ≡ addresses dims
words_are dims short h =
    let power : 2 ^ address_bits dims ≤ 2 ^ 32 = pow-le-pow_right (omega arith) h in
    rising-words 0 (2 ^ address_bits dims) (addresses dims) (omega arith) (addresses-rise dims short)

pub invariant_of-result-clause-rounded : goal.invariant_of-result-clause-rounded
invariant_of-result-clause-rounded c = c.in_ok-bits.ensures ∙ ap (map subscript_bits) c.deref-3.ensures.value

pub invariant_of-result-clause-small : goal.invariant_of-result-clause-small
invariant_of-result-clause-small c =
    let depth = few c.address_bits-depth.result c.deref-2.result.now c.in_ok-lengths.lengths.items c.if-depth-gt32.false c.address_bits-depth.ensures c.deref-2.ensures.value in
    subst (λ n. n ≤ 32) depth c.if-depth-gt32.false

pub invariant_of-result-clause-placed : goal.invariant_of-result-clause-placed
invariant_of-result-clause-placed c =
    let dims = c.in_ok-lengths.lengths.items in
    let depth = few c.address_bits-depth.result c.deref-2.result.now dims c.if-depth-gt32.false c.address_bits-depth.ensures c.deref-2.ensures.value in
    let short : AreShort dims = subst AreShort c.deref-else-depth-gt32.ensures.value (c.if-not-are_short.ensures refl) in
    c.in_ok-places.ensures ∙ ap (λ ds. in_words (addresses ds)) c.deref-4.ensures.value ∙ words_are dims short (subst (λ n. n ≤ 32) depth c.if-depth-gt32.false)

pub invariant_of-result-clause-whole : goal.invariant_of-result-clause-whole
invariant_of-result-clause-whole c =
    let depth = few c.address_bits-depth.result c.deref-2.result.now c.in_ok-lengths.lengths.items c.if-depth-gt32.false c.address_bits-depth.ensures c.deref-2.ensures.value in
    c.in_ok-words.ensures.len ∙ depth_is c.address_bits-depth.result (address_bits c.in_ok-lengths.lengths.items) depth c.if-depth-gt32.false

begun : (n m : ℕ) (dims places table initial given zeros new : List ℕ) (a : ℕ) → AreShort dims → places ≡ addresses dims → n ≡ 2 ^ address_bits dims → n ≡ m → zeros ≡ replicate m 0 → new ≡ filled places given (filled places initial (filled places table zeros))
    → get_or (take n (new ++ drop (length new) zeros)) a 0 ≡ given_at (addresses dims) given a (given_at (addresses dims) initial a (given_at (addresses dims) table a 0))
begun n m dims places table initial given zeros new a short p whole same z e =
    let all : length zeros ≡ n = ap length z ∙ length-replicate m 0 ∙ sym same in
    let count : length new ≡ n = ap length e ∙ length-filled places given (filled places initial (filled places table zeros)) ∙ length-filled places initial (filled places table zeros) ∙ length-filled places table zeros ∙ all in
    let none : get_or zeros a 0 ≡ 0 = ap (λ l. get_or l a 0) z ∙ zero_words m a in
    let rise : AreRising 0 places (2 ^ address_bits dims) = subst (λ l. AreRising 0 l (2 ^ address_bits dims)) (sym p) (addresses-rise dims short) in
    ap (λ l. get_or l a 0) (written_back n new zeros count ∙ e) ∙ first-filled (2 ^ address_bits dims) places table initial given zeros a rise (omega (arith, all, whole)) none
    ∙ ap (λ l. given_at l given a (given_at l initial a (given_at l table a 0))) p

pub returns-clause-words : goal.returns-clause-words
returns-clause-words c = λ a.
    let memory = c.args.memory.now in
    let dims = c.in_ok-lengths.lengths.items in
    let places = c.in_ok-places.places.items in
    let given = if memory.host then c.args.given.now else [] in
    let depth = few c.address_bits-depth.result c.deref-2.result.now dims c.if-depth-gt32.false c.address_bits-depth.ensures c.deref-2.ensures.value in
    let short : AreShort dims = subst AreShort c.deref-else-depth-gt32.ensures.value (c.if-not-are_short.ensures refl) in
    let placed : places ≡ addresses dims = c.in_ok-places.ensures ∙ ap (λ ds. in_words (addresses ds)) c.deref-4.ensures.value ∙ words_are dims short (subst (λ n. n ≤ 32) depth c.if-depth-gt32.false) in
    let whole : c.in_ok-words.words.len ≡ 2 ^ address_bits dims = c.in_ok-words.ensures.len ∙ depth_is c.address_bits-depth.result (address_bits dims) depth c.if-depth-gt32.false in
    let fill : List ℕ → List ℕ → List ℕ = λ ps ws. filled ps given (filled ps (elements_or_none memory.initial) (filled ps (elements_or_none memory.table) ws)) in
    let new_is : c.fill_all.new.words ≡ fill places c.in_ok-words.words.items = c.fill_all.ensures ∙ ap (λ ps. fill ps c.deref_mut.result.now) c.deref-5.ensures.value ∙ ap (fill places) c.deref_mut.ensures.value in
    let own : dims ≡ memory.dims.items = c.in_ok-lengths.ensures ∙ c.deref.ensures.value in
    let zeros : c.in_ok-words.words.items ≡ replicate ((1 * 2 ^ c.address_bits-depth.result) % 2 ^ 64) 0 = c.in_ok-words.ensures.items_if_clones_equal (λ y e. e) in
    begun c.in_ok-words.words.len _ dims places (elements_or_none memory.table) (elements_or_none memory.initial) given c.in_ok-words.words.items c.fill_all.new.words a short placed whole c.in_ok-words.ensures.len zeros new_is
    ∙ ap (λ ds. given_at (addresses ds) given a (given_at (addresses ds) (elements_or_none memory.initial) a (given_at (addresses ds) (elements_or_none memory.table) a 0))) own
