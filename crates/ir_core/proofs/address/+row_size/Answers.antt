use Rattle.std.proofs.Common.{refl}
use Rattle.ir_core.proofs.AddressWords.{own_size, size_words}
use Rattle.ir_core.proofs.address.+row_size.Goals as goal

pub returns-in-Some : goal.returns-in-Some
returns-in-Some t c =
    size_words c.in-Some.length.now _ c.row_size.result _ c.in-Some.inner.now c.args.lengths.now c.in-Some.ensures.cases.0
    (own_size c.subscript_bits.result _ c.subscript_bits.ensures.value c.subscript_bits.ensures.bound) c.row_size.ensures refl
