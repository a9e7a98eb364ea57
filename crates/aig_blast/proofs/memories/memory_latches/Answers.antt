use Rattle.std.proofs.Common.{◌<◌, length, refl, sym, arith, subst}
use Rattle.std.proofs.lemmas.List.{length-map}
use Rattle.aig_graph.specs.Making.{gates_of}
use Rattle.rtl_core.specs.Netlist.{netlist_of, memory_of}
use Rattle.aig_blast.specs.Ports.{CanWrite, WritesAll}
use Rattle.aig_blast.proofs.NextBits.{shows_none}
use Rattle.aig_blast.proofs.Banks.{bank_there, can_write, memories_more, memories_all, memory_listed}
use Rattle.aig_blast.proofs.memories.memory_latches.Goals as goal

pub loop-k-init : goal.loop-k-init
loop-k-init c = shows_none (gates_of c.args.graph.now) _ _ c.new-latches.ensures.items c.requires.blasted.sound (λ w. refl)

pub index-requires-in-loop-k : goal.index-requires-in-loop-k
index-requires-in-loop-k c =
    let d = netlist_of c.args.design.now in
    let maps = length-map c.args.design.now.mems.items memory_of in
    let h : c.loop-k.k < length d.mems = omega arith in
    let there = bank_there d (gates_of c.args.graph.now) c.args.literals.now c.loop-k.k c.requires.blasted h in
    omega (arith, there, c.args.literals.now.mems.ok)

pub bank_after-requires : goal.bank_after-requires
bank_after-requires c =
    let d = netlist_of c.args.design.now in
    let t = c.args.literals.now in
    let maps = length-map c.args.design.now.mems.items memory_of in
    let h : c.loop-k.k < length d.mems = omega arith in
    let h2 : c.loop-k.k < length c.args.design.now.mems.items = omega arith in
    let m = memory_of c.index.result.now in
    let can = can_write d (gates_of c.args.graph.now) _ t c.loop-k.k m c.index-in-loop-k.result.now c.requires.valid c.requires.blasted c.loop-k.invariant.extends c.loop-k.invariant.sound h
    (memory_listed c.args.design.now.mems.items c.loop-k.k c.index.result.now h2 c.index.ensures) c.index-in-loop-k.ensures in
    (m.bits, m.depth_log, subst (λ z. CanWrite (gates_of c.loop-k.graph) t z c.words-words.result.now m.bits m.depth_log) (sym c.as_slice-ports.ensures.value) (subst (λ z. CanWrite (gates_of c.loop-k.graph) t m.ports z m.bits m.depth_log) (sym c.words-words.ensures) can))

pub loop-k-preserved : goal.loop-k-preserved
loop-k-preserved c =
    let d = netlist_of c.args.design.now in
    let t = c.args.literals.now in
    let maps = length-map c.args.design.now.mems.items memory_of in
    let h : c.loop-k.k < length d.mems = omega arith in
    let h2 : c.loop-k.k < length c.args.design.now.mems.items = omega arith in
    let m = memory_of c.index.result.now in
    let is = memory_listed c.args.design.now.mems.items c.loop-k.k c.index.result.now h2 c.index.ensures in
    let can = can_write d (gates_of c.args.graph.now) _ t c.loop-k.k m c.index-in-loop-k.result.now c.requires.valid c.requires.blasted c.loop-k.invariant.extends c.loop-k.invariant.sound h is c.index-in-loop-k.ensures in
    let writes = c.in_ok-after.ensures m.bits m.depth_log
    (subst (λ z. CanWrite (gates_of c.loop-k.graph) t z c.words-words.result.now m.bits m.depth_log) (sym c.as_slice-ports.ensures.value) (subst (λ z. CanWrite (gates_of c.loop-k.graph) t m.ports z m.bits m.depth_log) (sym c.words-words.ensures) can)) in
    memories_more d _ _ _ t _ _ _ _ c.index-in-loop-k.result.now _ _ c.loop-k.k m c.requires.valid c.requires.blasted h is c.index-in-loop-k.ensures c.loop-k.invariant
    (subst (λ z. WritesAll (gates_of c.loop-k.graph) (gates_of c.bank_after.new.graph) t m.ports z m.bits c.in_ok-after.after.items) c.words-words.ensures (subst (λ z. WritesAll (gates_of c.loop-k.graph) (gates_of c.bank_after.new.graph) t z c.words-words.result.now m.bits c.in_ok-after.after.items) c.as_slice-ports.ensures.value writes))
    c.as_slice.ensures.value c.in_ok-bits.ensures c.as_slice-in-loop-k.ensures.value c.in_ok-extend_from_slice.ensures.items

pub returns : goal.returns
returns c =
    let maps = length-map c.args.design.now.mems.items memory_of in
    memories_all (netlist_of c.args.design.now) _ _ c.args.literals.now _ c.loop-k.k (omega arith) c.requires.blasted c.loop-k.invariant
