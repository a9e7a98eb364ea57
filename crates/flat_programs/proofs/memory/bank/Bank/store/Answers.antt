use Rattle.std.proofs.Common.{◌≡◌, ◌<◌, length, set, ap, ◌∙◌, arith}
use Rattle.ir_core.specs.Bodies.{address_of}
use Rattle.flat_programs.proofs.MemoryLemmas.Addressing.{address_bound}
use Rattle.flat_programs.proofs.MemoryLemmas.Banks.{stored_back}
use Rattle.flat_programs.proofs.memory.bank.Bank.store.Goals as goal

pub returns-clause-words : goal.returns-clause-words
returns-clause-words c a =
    let s = c.args.self.now in
    let address = address_of s.lengths.items c.args.subscripts.now in
    let address_is : c.address_at-address.result ≡ address = c.address_at-address.ensures ∙ ap (λ l. address_of l c.args.subscripts.now) c.deref.ensures.value in
    let new_is : c.set_word.new.words ≡ set s.words.items address c.args.word =
    c.set_word.ensures ∙ ap (λ l. set l c.address_at-address.result c.args.word) c.deref_mut.ensures.value ∙ ap (λ k. set s.words.items k c.args.word) address_is in
    let count : length s.words.items ≡ s.words.len = omega (arith, s.words.ok.0) in
    let same : length c.set_word.new.words ≡ s.words.len = omega (arith, count, c.set_word.auto.words, ap length c.deref_mut.ensures.value) in
    let inside : address < length s.words.items = omega (arith, count, s.whole, address_bound s.lengths.items c.args.subscripts.now) in
    stored_back s.words.len s.words.items c.set_word.new.words address c.args.word a new_is same inside
