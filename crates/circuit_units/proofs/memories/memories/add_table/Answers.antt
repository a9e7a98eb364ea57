use Rattle.std.proofs.Common.{◌≡◌, ◌∙◌, ℕ, None, Some, false, ap, sym, subst}
use Rattle.rtl_logic.specs.Making.{circuit}
use Rattle.datapath.specs.Plans.{Array, array_at, array_of}
use Rattle.program_validity.proofs.Memories.{table_alone, table_fits}
use Rattle.circuit_units.specs.Memories.Places.{IsInside, AreWordsOf}
use Rattle.circuit_units.proofs.MemoriesLemmas.Outer.{array_there, inside_of_table}
use Rattle.circuit_units.proofs.MemoriesLemmas.Arrays.{table_added}
use Rattle.circuit_units.proofs.MemoriesLemmas.Steps.{both_ok}
use Rattle.circuit_units.proofs.memories.memories.add_table.Goals as goal

pub words_of-requires : goal.words_of-requires
words_of-requires c = table_fits c.args.memory.now c.args.elements.now c.requires.valid c.requires.table

pub returns : goal.returns
returns c = λ p names ready place at number.
    let d = circuit c.args.logic.now in
    let e = circuit c.table_ports.new.logic in
    let a = c.args.first.array.0 in
    let m = c.args.memory.now in
    let elements = c.args.elements.now in
    let there = array_there p a (array_of m) at in
    let alone = table_alone m elements c.requires.valid c.requires.table in
    let table : (array_at p a).table ≡ Some elements = ap (λ (x : Array). x.table) there ∙ c.requires.table in
    let host : (array_at p a).host ≡ false = ap (λ (x : Array). x.host) there ∙ alone.0 in
    let first : (array_at p a).first ≡ None = ap (λ (x : Array). x.first) there ∙ alone.1 in
    let inside : (n : ℕ) → IsInside p a n = λ n. inside_of_table p a n host first in
    let words : AreWordsOf p a elements c.items.result.now = subst (AreWordsOf p a elements) (sym c.items.ensures) (c.in_ok-words.ensures p place at) in
    both_ok c.table_ports.result _ _ _ (λ w made count. table_added p names d e a elements w.items place.there table number count made)
    (c.table_ports.ensures.ports p names elements ready place inside table words) (c.table_ports.ensures.count p names ready)
