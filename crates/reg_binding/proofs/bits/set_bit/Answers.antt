use Rattle.std.proofs.Common.{◌*◌, ◌/◌, ◌%◌, ◌^◌, ap, arith}
use Rattle.std.specs.Prelude.{bit_or}
use Rattle.std.proofs.lemmas.List.{get_or_read}
use Rattle.reg_binding.proofs.LiveVariables.Words.{set_has}
use Rattle.reg_binding.proofs.bits.set_bit.Goals as goal

pub returns-then-index-len-clause-bits : goal.returns-then-index-len-clause-bits
returns-then-index-len-clause-bits c = λ n l.
    set_has c.args.words.now.items c.args.number n _ (omega arith)
    (ap (λ x. bit_or x (1 * 2 ^ (c.args.number % 64) % 18446744073709551616)) (get_or_read c.args.words.now.items (c.args.number / 64) c.index_mut.result.now (omega arith) c.index_mut.ensures.value 0))
