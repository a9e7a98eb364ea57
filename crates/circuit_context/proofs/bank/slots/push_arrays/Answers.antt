use Rattle.std.proofs.Common.{refl, arith}
use Rattle.circuit_context.proofs.BankLemmas.Adding.{words_added, word_bits}
use Rattle.circuit_context.proofs.bank.slots.push_arrays.Goals as goal

pub loop-number-preserved : goal.loop-number-preserved
loop-number-preserved c = λ p arrays counts.
    let k = c.loop-number.number in
    let memories = c.args.memories.now in
    let memory = c.index-memories-number.result in
    let same = c.number_of.ensures in
    words_added p memories c.args.ports.now k _ (record { 0 = c.number_of.result }) c.args.slots.now.items c.loop-number.slots.items c.push_words.new.slots.items arrays counts (omega arith) same refl
    (c.loop-number.invariant p arrays counts) (c.in_ok-push_words.ensures p (word_bits p memories k c.number_of.result memory arrays (omega arith) c.index-memories-number.is same))
