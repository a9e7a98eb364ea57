use Rattle.std.proofs.Common.{◌≡◌, ◌∙◌, length, map, ap, sym, subst, arith}
use Rattle.std.proofs.lemmas.List.{length-map}
use Rattle.rtl_core.specs.declared.design.Port.{Port}
use Rattle.rtl_logic.specs.Making.{circuit}
use Rattle.rtl_logic.proofs.Making.{appended, appends_both, goes_on}
use Rattle.datapath.specs.Netlists.{memory_of}
use Rattle.datapath.specs.Ports.{port_count}
use Rattle.circuit_units.specs.Memories.Places.{AddsArray, AreReadings, TellsOnly, enable_of_only, reading_at, wires_at}
use Rattle.circuit_units.proofs.MemoriesLemmas.Registers.{reads_at, words_later}
use Rattle.circuit_units.proofs.MemoriesLemmas.Steps.{sets_all_behind}
use Rattle.circuit_units.proofs.MemoriesLemmas.Only.{only_tells}
use Rattle.circuit_units.proofs.MemoriesLemmas.Stores.{memory_stored, wires_counted}
use Rattle.circuit_units.proofs.MemoriesLemmas.Arrays.{port_later, ready_later, memory_added}
use Rattle.circuit_units.proofs.memories.memories.add_memory.Goals as goal

pub set_words-requires : goal.set_words-requires
set_words-requires c =
    let words = ap length (c.deref-3.ensures.value ∙ c.in_ok-pins.ensures.words) ∙ wires_counted _ (length c.in_ok-ports.ports.items) in
    let reads = ap length (c.deref-4.ensures.value ∙ c.in_ok-reads.ensures) ∙ length-map c.deref-3.result.now (reading_at c.in_ok-when.when) in
    omega (arith, words, reads, c.in_ok-ports.ensures.numbered)

pub returns : goal.returns
returns c = λ p names ready place at none number.
    let b = circuit c.args.logic.now in
    let d = circuit c.outside_access.new.logic in
    let e = circuit c.make_ports.new.logic in
    let f = circuit c.append_memory.new.logic in
    let h = circuit c.read_bit.new.logic in
    let g = circuit c.set_words.new.logic in
    let a = c.args.first.array.0 in
    let bits = c.args.first.bits in
    let depth_ = c.args.first.depth in
    let ports = c.in_ok-ports.ports.items in
    let words = c.deref-3.result.now in
    let outside = c.in_ok-outside.ensures p names ready.context ready.begun place at in
    let ready_d = ready_later p names c.args.of.now c.args.groups.now b d (appended b d outside.appends) outside.begun ready in
    let made = c.in_ok-ports.ensures.ports p names ready_d place outside.is in
    let count = c.in_ok-ports.ensures.count p names ready_d in
    let both = appends_both b d e outside.appends made.appends in
    let number_e : length e.mems ≡ memory_of p a = ap (λ n. length n.mems) both.is ∙ number in
    let stored = memory_stored p names e f a bits depth_ ports words made.begun place.wide place.bits place.depth_ none number_e made.are c.in_ok-pins.ensures.grown (c.deref-3.ensures.value ∙ c.in_ok-pins.ensures.words) in
    let ready_f = ready_later p names c.args.of.now c.args.groups.now b f (goes_on b e f (appended b e both) stored.extends) stored.begun ready in
    let counted : length (map (λ (port : Port). port.addr) ports) ≡ length words =
    length-map ports (λ (port : Port). port.addr) ∙ sym (ap length (c.deref-3.ensures.value ∙ c.in_ok-pins.ensures.words) ∙ wires_counted (length e.wires) (length ports)) in
    let only = only_tells p names f a ports count none (λ n port at_. port_later p names e f a n port stored.extends (made.are n port at_)) in
    let when = c.in_ok-when.ensures p names a stored.begun (subst (TellsOnly p names f a) (sym (c.only_enable-enable.ensures ∙ ap enable_of_only c.deref-2.ensures.value)) only) in
    let ready_h = ready_later p names c.args.of.now c.args.groups.now b h (goes_on b f h (goes_on b e f (appended b e both) stored.extends) (appended f h when.appends)) when.begun ready in
    let many : length words ≡ port_count p a = sym counted ∙ (length-map ports (λ (port : Port). port.addr) ∙ count) in
    let reads = reads_at p names h a (map (λ (port : Port). port.addr) ports) words c.in_ok-when.when many (words_later p names f h a _ words (appended f h when.appends) stored.read) when.carries in
    let listed = c.deref-4.ensures.value ∙ c.in_ok-reads.ensures in
    let sets_h = c.in_ok-set_words.ensures p names (map (λ (port : Port). port.addr) ports) ready_h place
    (subst (AreReadings p names h a (map (λ (port : Port). port.addr) ports)) (sym listed) reads) (counted ∙ sym (ap length listed ∙ length-map words (reading_at c.in_ok-when.when))) in
    let sets = sets_all_behind p names f h g a _ when.appends sets_h in
    subst (AddsArray p names b g a) (sym (c.in_ok-wires.ensures ∙ ap (map wires_at) c.deref.ensures.value))
    (memory_added p names b e f g a bits depth_ ports words place.there none place.bits place.depth_ number count both made.are stored sets)
