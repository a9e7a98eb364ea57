use Rattle.std.proofs.Common.{◌≡◌, ℕ, ◌+◌, ap, ◌∙◌, ◌%◌, ◌^◌, get_or, length, refl, sym, subst, arith}
use Rattle.flat_programs.proofs.MemoryLemmas.Addressing.{Left, few_own, left_more, left_fits, left_all}
use Rattle.flat_programs.proofs.memory.bank.address_at.Goals as goal

pub low_bits-low-requires : goal.low_bits-low-requires
low_bits-low-requires c = few_own c.args.lengths.now c.args.bits.now c.loop-index.index _ c.requires.rounded c.loop-index-test.true refl

pub joined-address-requires-clause-few : goal.joined-address-requires-clause-few
joined-address-requires-clause-few c = few_own c.args.lengths.now c.args.bits.now c.loop-index.index _ c.requires.rounded c.loop-index-test.true refl

pub joined-address-requires-clause-fits : goal.joined-address-requires-clause-fits
joined-address-requires-clause-fits c =
    let own = get_or c.args.bits.now c.loop-index.index 0 in
    left_fits c.args.lengths.now c.args.subscripts.now _ _ c.requires.small
    (left_more c.args.lengths.now c.args.bits.now c.args.subscripts.now c.loop-index.index own c.low_bits-low.result c.loop-index.address c.requires.rounded c.loop-index-test.true refl (c.low_bits-low.ensures ∙ ap (λ x. x % 2 ^ own) c.word_at.ensures) c.loop-index.invariant)

pub loop-index-preserved : goal.loop-index-preserved
loop-index-preserved c =
    let own = get_or c.args.bits.now c.loop-index.index 0 in
    let given = left_more c.args.lengths.now c.args.bits.now c.args.subscripts.now c.loop-index.index own c.low_bits-low.result c.loop-index.address c.requires.rounded c.loop-index-test.true refl (c.low_bits-low.ensures ∙ ap (λ x. x % 2 ^ own) c.word_at.ensures) c.loop-index.invariant in
    let next : ℕ → Type 0 = λ address. Left c.args.lengths.now c.args.subscripts.now (c.loop-index.index + 1) address in
    subst next (sym c.joined-address.ensures) given

pub returns : goal.returns
returns c =
    let end : c.loop-index.index ≡ length c.args.bits.now = omega arith in
    let last : ℕ → Type 0 = λ i. Left c.args.lengths.now c.args.subscripts.now i c.loop-index.address in
    left_all c.args.lengths.now c.args.bits.now c.args.subscripts.now c.loop-index.address c.requires.rounded (subst last end c.loop-index.invariant)
