use Rattle.std.proofs.Common.{◌<◌, ◌∙◌, List, map, length, get_or, ap, arith}
use Rattle.std.proofs.lemmas.List.{length-map, with_items_is}
use Rattle.rtl_core.specs.declared.design.Port.{Port}
use Rattle.rtl_core.specs.declared.design.Mem.{Mem}
use Rattle.rtl_core.specs.Netlist.{memory_of}
use Rattle.rtl_logic.specs.Pruning.{renamed_port, renamed_memory}
use Rattle.rtl_logic.proofs.Keeping.{over_seen}
use Rattle.rtl_logic.proofs.prune.renumber_memories.Goals as goal

pub loop-memory-preserved : goal.loop-memory-preserved
loop-memory-preserved c = λ m n.
    let i = c.loop-memory.memory-index in
    let at_ : Mem = get_or c.loop-memory.memories i c.memory-item.result in
    let within : i < length (map memory_of c.args.memories.now) = let l = length-map c.args.memories.now memory_of in omega (arith, l) in
    over_seen memory_of (renamed_memory m) (map memory_of c.args.memories.now) c.loop-memory.memories i c.memory-item.result _ within (omega arith) (c.loop-memory.invariant m n)
    (ap (λ (p : List Port). record { bits = at_.bits; depth_log = at_.depth_log; ports = p }) (with_items_is at_.ports c.ports.new.ports (omega (arith, c.ports.auto.ports, ap length c.deref_mut.ensures.value, at_.ports.ok.0)) ∙ c.ports.ensures m n ∙ ap (map (renamed_port m)) c.deref_mut.ensures.value))
