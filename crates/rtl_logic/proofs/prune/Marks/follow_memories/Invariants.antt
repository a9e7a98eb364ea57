use Rattle.std.proofs.Common.{take}
use Rattle.std.specs.List.{All}
use Rattle.rtl_core.specs.declared.design.Mem.{Mem}
use Rattle.rtl_logic.specs.Pruning.{Marked, PortIsMarked}
use Rattle.rtl_logic.specs.Marking.{marked_of, search_of, Spreads, StaysIn}
use Rattle.rtl_logic.proofs.prune.Marks.follow_memories.Given as goal

abbrev pub invariant-loop-memory : goal.invariant-loop-memory
invariant-loop-memory l = record {
  spreads : Spreads (search_of l.initial.self) (search_of l.self);
  marked : All (λ (x : Mem). All (PortIsMarked (marked_of l.self)) x.ports.items) (take l.memory-index l.memories);
  least : (n : Marked) → All (λ (x : Mem). All (PortIsMarked n) x.ports.items) l.memories → StaysIn n (search_of l.initial.self) (search_of l.self);
}
