use Rattle.std.proofs.Common.{◌≡◌, ◌∙◌, ◌+◌, ◌∷◌, [], List, length, map, ap, sym, subst, length-append, arith}
use Rattle.std.proofs.lemmas.List.{length-map, map-append}
use Rattle.rtl_logic.specs.Making.{circuit}
use Rattle.datapath.specs.Plans.{array_of}
use Rattle.datapath.specs.Netlists.{memory_of}
use Rattle.circuit_units.specs.declared.memories.memories.PortWires.{PortWires}
use Rattle.circuit_units.specs.Memories.Places.{IsReady}
use Rattle.circuit_units.proofs.MemoriesLemmas.Arrays.{AddsFirst, ready_later, none_added, one_added, all_added}
use Rattle.circuit_units.proofs.MemoriesLemmas.Outer.{arrays_of}
use Rattle.circuit_units.proofs.memories.memories.add_memories.Goals as goal

pub loop-place-init : goal.loop-place-init
loop-place-init c = record {
  added = λ p names ready empty.
      subst (λ l. AddsFirst p names (circuit c.args.logic.now) (circuit c.args.logic.now) (map (λ ports. ports.items) l)) (sym c.in_ok-ports.ensures.items) (none_added p names (circuit c.args.logic.now) ready.begun empty);
  count = ap length c.in_ok-ports.ensures.items;
}

pub number_of-array-requires : goal.number_of-array-requires
number_of-array-requires c = omega (arith, c.loop-place-test.true, c.len-count.ensures, c.args.of.now.few.arrays)

pub add_array-requires : goal.add_array-requires
add_array-requires c = omega (arith, c.number_of-array.ensures, c.loop-place-test.true, c.len-count.ensures)

pub loop-place-preserved : goal.loop-place-preserved
loop-place-preserved c = record {
  added = λ p names ready empty.
      let d = circuit c.args.logic.now in
      let e = circuit c.loop-place.logic in
      let f = circuit c.add_array.new.logic in
      let tables : List (List PortWires) = map (λ ports. ports.items) c.loop-place.ports.items in
      let wires = c.in_ok-add_array.field-0.items in
      let h : AddsFirst p names d e tables = c.loop-place.invariant.added p names ready empty in
      let at : c.number_of-array.result.0 ≡ length tables = c.number_of-array.ensures ∙ (sym c.loop-place.invariant.count ∙ sym (length-map c.loop-place.ports.items (λ ports. ports.items))) in
      let one = c.in_ok-add_array.ensures p names (ready_later p names c.args.of.now c.args.groups.now d e h.extends h.begun ready) (h.only ∙ ap (memory_of p) (sym at)) in
      subst (AddsFirst p names d f) (sym (ap (map (λ ports. ports.items)) c.in_ok-push.ensures.items ∙ map-append (λ ports. ports.items) c.loop-place.ports.items (c.in_ok-add_array.field-0 ∷ [])))
      (one_added p names d e f c.number_of-array.result.0 tables wires at h one);
  count = ap length c.in_ok-push.ensures.items ∙ (length-append c.loop-place.ports.items (c.in_ok-add_array.field-0 ∷ []) ∙ ap (λ k. k + 1) c.loop-place.invariant.count);
}

pub returns : goal.returns
returns c = λ p names pushes context begun distinct empty are held.
    let d = circuit c.args.logic.now in
    let e = circuit c.loop-place.logic in
    let ready : IsReady p names c.args.of.now c.args.groups.now d = record { context = context; begun = begun; distinct = distinct; pushes = pushes; are = are; held = held } in
    let arrays : length p.arrays ≡ length c.args.of.now.cfg.now.frame.memories.items = ap length (arrays_of p names c.args.of.now context) ∙ length-map c.args.of.now.cfg.now.frame.memories.items array_of in
    let counted : length c.loop-place.ports.items ≡ length p.arrays = omega (arith, arrays, c.loop-place.invariant.count, c.len-count.ensures, c.loop-place-test.false) in
    all_added p names d e _ counted (c.loop-place.invariant.added p names ready empty)
