use Rattle.std.proofs.Common.{◌∙◌, ap, sym, subst}
use Rattle.std.specs.Prelude.{slice_get}
use Rattle.std.specs.List.{All}
use Rattle.rtl_core.specs.declared.design.Mem.{Mem}
use Rattle.rtl_core.specs.declared.design.OutPin.{OutPin}
use Rattle.rtl_core.specs.Netlist.{Memory, memory_of}
use Rattle.rtl_core.proofs.Checks.{All-map_back}
use Rattle.rtl_logic.specs.Pruning.{IsMarked, PortIsMarked}
use Rattle.std.proofs.lemmas.Result.{IfOk-weaker}
use Rattle.rtl_logic.specs.Marking.{marked_of, search_of}
use Rattle.rtl_logic.proofs.Spreading.{spreads_both, roots_of, both_ok}
use Rattle.rtl_logic.proofs.prune.Marks.follow_roots.Goals as goal

pub returns-clause-spreads : goal.returns-clause-spreads
returns-clause-spreads c =
    IfOk-weaker c.follow_units.result _ _ (λ u s.
    spreads_both (search_of c.args.self.now) (search_of c.follow_memories.new.self) (search_of c.follow_units.new.self)
    (spreads_both (search_of c.args.self.now) (search_of c.follow_outputs.new.self) (search_of c.follow_memories.new.self) c.in_ok-follow_outputs.ensures.spreads c.in_ok-follow_memories.ensures.spreads) s)
    c.follow_units.ensures.spreads

pub returns-clause-marked : goal.returns-clause-marked
returns-clause-marked c =
    both_ok c.follow_units.result _ _ _ (λ s u.
    roots_of c.args.design.now (marked_of c.follow_outputs.new.self) (marked_of c.follow_memories.new.self) (marked_of c.follow_units.new.self) c.in_ok-follow_memories.ensures.spreads.more s.more
    c.deref.result.now c.deref.ensures.value c.in_ok-follow_outputs.ensures.marked c.deref-2.result.now c.deref-2.ensures.value c.in_ok-follow_memories.ensures.marked c.deref-3.result.now
    c.deref-3.ensures.value u) c.follow_units.ensures.spreads c.follow_units.ensures.marked

pub returns-clause-least : goal.returns-clause-least
returns-clause-least c =
    let design = c.args.design.now in
    IfOk-weaker c.follow_units.result _ _ (λ u s n roots i.
    s n (λ k w e unit. roots.units k w (ap (λ l. slice_get l k) (sym c.deref-3.ensures.value) ∙ e) unit)
    (c.in_ok-follow_memories.ensures.least n
    (subst (All (λ (x : Mem). All (PortIsMarked n) x.ports.items)) (sym c.deref-2.ensures.value) (All-map_back (λ (x : Memory). All (PortIsMarked n) x.ports) memory_of design.mems.items roots.ports))
    (c.in_ok-follow_outputs.ensures.least n (subst (All (λ (o : OutPin). IsMarked n o.from)) (sym c.deref.ensures.value) roots.outputs) i))) c.follow_units.ensures.least
