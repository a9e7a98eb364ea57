use Rattle.std.proofs.Common.{◌≡◌, ◌<◌, ◌∙◌, None, Some, length, slice_get, refl, sym, ap, subst}
use Rattle.std.specs.Prelude.{IfOk}
use Rattle.std.proofs.lemmas.Option.{slice_get_read}
use Rattle.hls_base.specs.declared.number.ArrayId.{ArrayId}
use Rattle.rtl_logic.specs.Making.{circuit}
use Rattle.datapath.specs.Plans.{Array, array_at, array_of}
use Rattle.datapath.specs.Netlists.{memory_of}
use Rattle.circuit_units.specs.Memories.Places.{AddsArray}
use Rattle.circuit_units.proofs.MemoriesLemmas.Outer.{array_there, memory_of_array, valid_there}
use Rattle.circuit_units.proofs.memories.memories.add_array.Goals as goal

pub place_of-first-requires : goal.place_of-first-requires
place_of-first-requires c =
    let memories = c.args.of.now.cfg.now.frame.memories.items in
    valid_there c.args.of.now c.args.array.0 c.index-memory.result.now (slice_get_read memories (length memories) c.args.array.0 c.index-memory.result.now refl c.requires c.index-memory.ensures)

pub add_table-requires-clause-there : goal.add_table-requires-clause-there
add_table-requires-clause-there c = subst (λ (a : ArrayId). a.0 < length c.args.of.now.cfg.now.frame.memories.items) (sym c.place_of-first.ensures.array) c.requires

pub add_table-requires-clause-valid : goal.add_table-requires-clause-valid
add_table-requires-clause-valid c =
    let memories = c.args.of.now.cfg.now.frame.memories.items in
    valid_there c.args.of.now c.args.array.0 c.index-memory.result.now (slice_get_read memories (length memories) c.args.array.0 c.index-memory.result.now refl c.requires c.index-memory.ensures)

pub add_table-requires-clause-table : goal.add_table-requires-clause-table
add_table-requires-clause-table c = c.in-Some.is ∙ ap Some (sym c.items.ensures)

pub add_memory-requires-clause-there : goal.add_memory-requires-clause-there
add_memory-requires-clause-there c = subst (λ (a : ArrayId). a.0 < length c.args.of.now.cfg.now.frame.memories.items) (sym c.place_of-first.ensures.array) c.requires

pub add_memory-requires-clause-valid : goal.add_memory-requires-clause-valid
add_memory-requires-clause-valid c =
    let memories = c.args.of.now.cfg.now.frame.memories.items in
    valid_there c.args.of.now c.args.array.0 c.index-memory.result.now (slice_get_read memories (length memories) c.args.array.0 c.index-memory.result.now refl c.requires c.index-memory.ensures)

pub returns-in-Some : goal.returns-in-Some
returns-in-Some c = λ p names ready number.
    let d = circuit c.args.logic.now in
    let e = circuit c.add_table.new.logic in
    let m = c.index-memory.result.now in
    let memories = c.args.of.now.cfg.now.frame.memories.items in
    let same : c.place_of-first.result.array ≡ c.args.array = c.place_of-first.ensures.array in
    let there : slice_get p.arrays c.args.array.0 ≡ Some (array_of m) =
    memory_of_array p names c.args.of.now c.args.array.0 m ready.context (slice_get_read memories (length memories) c.args.array.0 m refl c.requires c.index-memory.ensures) in
    subst (λ (a : ArrayId). IfOk c.add_table.result (λ wires. AddsArray p names d e a.0 wires.items)) same
    (c.add_table.ensures p names ready (c.place_of-first.ensures.place p there) (subst (λ (a : ArrayId). slice_get p.arrays a.0 ≡ Some (array_of m)) (sym same) there)
    (subst (λ (a : ArrayId). length d.mems ≡ memory_of p a.0) (sym same) number))

pub returns-in-None : goal.returns-in-None
returns-in-None c = λ p names ready number.
    let d = circuit c.args.logic.now in
    let e = circuit c.add_memory.new.logic in
    let m = c.index-memory.result.now in
    let memories = c.args.of.now.cfg.now.frame.memories.items in
    let same : c.place_of-first.result.array ≡ c.args.array = c.place_of-first.ensures.array in
    let there : slice_get p.arrays c.args.array.0 ≡ Some (array_of m) =
    memory_of_array p names c.args.of.now c.args.array.0 m ready.context (slice_get_read memories (length memories) c.args.array.0 m refl c.requires c.index-memory.ensures) in
    let none : (array_at p c.args.array.0).table ≡ None = ap (λ (x : Array). x.table) (array_there p c.args.array.0 (array_of m) there) ∙ c.in-None.is in
    subst (λ (a : ArrayId). IfOk c.add_memory.result (λ wires. AddsArray p names d e a.0 wires.items)) same
    (c.add_memory.ensures p names ready (c.place_of-first.ensures.place p there) (subst (λ (a : ArrayId). slice_get p.arrays a.0 ≡ Some (array_of m)) (sym same) there)
    (subst (λ (a : ArrayId). (array_at p a.0).table ≡ None) (sym same) none) (subst (λ (a : ArrayId). length d.mems ≡ memory_of p a.0) (sym same) number))
