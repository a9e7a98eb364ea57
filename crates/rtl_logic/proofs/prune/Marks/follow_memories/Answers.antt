use Rattle.std.proofs.Common.{◌∙◌, ap, sym, subst, arith}
use Rattle.std.proofs.lemmas.List.Elements.{All-get_or}
use Rattle.std.specs.List.{All}
use Rattle.rtl_core.specs.declared.design.Mem.{Mem}
use Rattle.rtl_core.proofs.Checks.{passes_all}
use Rattle.rtl_logic.specs.Pruning.{PortIsMarked}
use Rattle.rtl_logic.specs.Marking.{marked_of, search_of}
use Rattle.rtl_logic.proofs.Spreading.{spreads_both, all_more, ports_stay}
use Rattle.rtl_logic.proofs.prune.Marks.follow_memories.Goals as goal

pub loop-memory-preserved : goal.loop-memory-preserved
loop-memory-preserved c =
    let s = c.in_ok-follow_ports.ensures.spreads in
    record {
      spreads = spreads_both (search_of c.args.self.now) (search_of c.loop-memory.self) (search_of c.follow_ports.new.self) c.loop-memory.invariant.spreads s;
      marked = all_more (λ (x : Mem). All (PortIsMarked (marked_of c.loop-memory.self)) x.ports.items) (λ (x : Mem). All (PortIsMarked (marked_of c.follow_ports.new.self)) x.ports.items) c.args.memories.now
          c.loop-memory.memory-index c.memory-item.result (λ (x : Mem) h. ports_stay (marked_of c.loop-memory.self) (marked_of c.follow_ports.new.self) s.more x.ports.items h) (omega arith)
          c.loop-memory.invariant.marked
          (subst (All (PortIsMarked (marked_of c.follow_ports.new.self))) (c.deref.ensures.value ∙ ap (λ (x : Mem). x.ports.items) c.memory-item.is) c.in_ok-follow_ports.ensures.marked);
      least = λ n all i.
          let here = All-get_or (λ (x : Mem). All (PortIsMarked n) x.ports.items) c.args.memories.now c.loop-memory.memory-index c.memory-item.result (omega arith) all in
          c.in_ok-follow_ports.ensures.least n (subst (All (PortIsMarked n)) (sym (c.deref.ensures.value ∙ ap (λ (x : Mem). x.ports.items) c.memory-item.is)) here) (c.loop-memory.invariant.least n all i);
    }

pub returns-clause-marked : goal.returns-clause-marked
returns-clause-marked c =
    passes_all (λ (x : Mem). All (PortIsMarked (marked_of c.loop-memory.self)) x.ports.items) c.args.memories.now c.loop-memory.memory-index (omega arith) c.loop-memory.invariant.marked
