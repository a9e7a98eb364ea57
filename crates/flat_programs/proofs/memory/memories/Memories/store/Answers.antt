use Rattle.std.proofs.Common.{◌≡◌, ◌<◌, ℕ, List, [], length, get_or, set, map, sym, ap, ◌∙◌, arith}
use Rattle.std.specs.Prelude.{slice_get, Some}
use Rattle.std.proofs.Math.Seq.{map-set_same}
use Rattle.std.proofs.lemmas.List.{get_or-map, length-map}
use Rattle.std.proofs.lemmas.Option.{slice_get-get_or}
use Rattle.ir_core.specs.Bodies.{address_of, with_element}
use Rattle.flat_programs.specs.declared.memory.bank.Bank.{Bank}
use Rattle.flat_programs.specs.Memory.Contents.{word_in, words_in}
use Rattle.flat_programs.proofs.MemoryLemmas.Banks.{element_set}
use Rattle.flat_programs.proofs.memory.memories.Memories.store.Goals as goal

abbrev dims : Bank → List ℕ
dims b = b.lengths.items

pub returns-then-index-len-clause-dims : goal.returns-then-index-len-clause-dims
returns-then-index-len-clause-dims c =
    map-set_same dims c.args.self.now.banks.items c.args.array.0 c.store.new.self c.index_mut.result.now (c.store.ensures.lengths ∙ ap dims c.index_mut.ensures.value)

pub returns-then-index-len-clause-words : goal.returns-then-index-len-clause-words
returns-then-index-len-clause-words c = λ h.
    let banks = c.args.self.now.banks.items in
    let i = c.args.array.0 in
    let old = c.index_mut.result.now in
    let inside : i < length banks = omega (arith, h, length-map banks dims) in
    let was : slice_get banks i ≡ Some old = slice_get-get_or banks i old inside ∙ ap Some (sym c.index_mut.ensures.value) in
    let own : get_or (map dims banks) i [] ≡ old.lengths.items = get_or-map dims banks i old [] inside ∙ ap dims (sym c.index_mut.ensures.value) in
    let pointwise = element_set word_in banks i old c.store.new.self (address_of old.lengths.items c.args.subscripts.now) c.args.word inside was c.store.ensures.words in
    let there : (k a : ℕ) → word_in (slice_get (set banks i c.store.new.self) k) a ≡ with_element i (address_of (get_or (map dims banks) i []) c.args.subscripts.now) c.args.word (words_in c.args.self.now) k a =
    λ k a. pointwise k a ∙ ap (λ ds. with_element i (address_of ds c.args.subscripts.now) c.args.word (words_in c.args.self.now) k a) (sym own) in
    λ j. λ k a. there k a j
