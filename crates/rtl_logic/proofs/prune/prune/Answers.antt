use Rattle.std.proofs.Common.{◌≡◌, ◌∙◌, length, map, ap, ap₂, sym, subst, arith}
use Rattle.std.proofs.lemmas.List.{with_items_is}
use Rattle.std.specs.Vec.{with_items}
use Rattle.rtl_core.specs.Netlist.{Netlist, netlist_of, memory_of}
use Rattle.rtl_logic.specs.Pruning.{Marked, place_in, kept, renamed_output, renamed_reg, renamed_wire, renamed_memory, reduced, IsPruned}
use Rattle.rtl_logic.specs.Marking.{AreNumbers, marked_of}
use Rattle.rtl_logic.proofs.Pruned.{pruned}
use Rattle.rtl_logic.proofs.prune.prune.Goals as goal

pub returns : goal.returns
returns c = λ valid.
    let design = c.args.design.now in
    let d : Netlist = netlist_of design in
    let m : Marked = marked_of c.in_ok-marks.marks in
    let numbers : AreNumbers (record { regs = c.in_ok-places_before.field-0; wires = c.in_ok-places_before-2.field-0 }) m =
    record {
      regs = λ k. c.in_ok-places_before.ensures k ∙ ap (λ l. place_in l k) c.deref.ensures.value;
      wires = λ k. c.in_ok-places_before-2.ensures k ∙ ap (λ l. place_in l k) c.deref-2.ensures.value;
    } in
    let outputs = with_items_is design.outputs c.renumber_outputs.new.outputs (omega (arith, c.renumber_outputs.auto.outputs, ap length c.deref_mut-2.ensures.value, design.outputs.ok.0)) ∙ c.renumber_outputs.ensures m numbers ∙ ap (map (renamed_output m)) c.deref_mut-2.ensures.value in
    let regs = c.in_ok-design-2.ensures m numbers ∙ ap₂ (λ bs xs. map (renamed_reg m) (kept bs xs)) c.deref-6.ensures.value c.deref-5.ensures.value in
    let wires = c.in_ok-design.ensures m numbers ∙ ap₂ (λ bs xs. map (renamed_wire m) (kept bs xs)) c.deref-4.ensures.value c.deref-3.ensures.value in
    let mems = ap (map memory_of) (with_items_is design.mems c.renumber_memories.new.memories (omega (arith, c.renumber_memories.auto.memories, ap length c.deref_mut.ensures.value, design.mems.ok.0))) ∙ c.renumber_memories.ensures m numbers ∙ ap (λ l. map (renamed_memory m) (map memory_of l)) c.deref_mut.ensures.value in
    let after : Netlist =
    record {
      name = d.name;
      inputs = d.inputs;
      outputs = (with_items design.outputs c.renumber_outputs.new.outputs).items;
      regs = c.in_ok-design-2.field-0.items;
      mems = map memory_of (with_items design.mems c.renumber_memories.new.memories).items;
      wires = c.in_ok-design.field-0.items;
    } in
    let less : after ≡ reduced m d = λ i. record { name = d.name; inputs = d.inputs; outputs = outputs i; regs = regs i; mems = mems i; wires = wires i } in
    subst (IsPruned d) (sym less) (pruned d m valid c.in_ok-marks.ensures.closed c.in_ok-marks.ensures.least)
