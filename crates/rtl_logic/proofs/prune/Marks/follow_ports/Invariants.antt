use Rattle.std.proofs.Common.{take}
use Rattle.std.specs.List.{All}
use Rattle.rtl_logic.specs.Pruning.{Marked, PortIsMarked}
use Rattle.rtl_logic.specs.Marking.{marked_of, search_of, Spreads, StaysIn}
use Rattle.rtl_logic.proofs.prune.Marks.follow_ports.Given as goal

abbrev pub invariant-loop-port : goal.invariant-loop-port
invariant-loop-port l = record {
  spreads : Spreads (search_of l.initial.self) (search_of l.self);
  marked : All (PortIsMarked (marked_of l.self)) (take l.port-index l.ports);
  least : (n : Marked) → All (PortIsMarked n) l.ports → StaysIn n (search_of l.initial.self) (search_of l.self);
}
