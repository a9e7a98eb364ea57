use Rattle.std.proofs.Common.{◌≡◌, List, length}
use Rattle.rtl_logic.specs.Making.{circuit}
use Rattle.datapath.specs.Plans.{Plan}
use Rattle.datapath.specs.Cycles.{Register}
use Rattle.circuit_units.specs.Memories.Places.{IsReady, IsPlace, IsAccess, MakesPorts}
use Rattle.circuit_units.proofs.memories.ports.make_ports.Given as goal

abbrev pub invariant-loop-port : goal.invariant-loop-port
invariant-loop-port l = record {
  made : (p : Plan) (names : List Register) → IsReady p names l.of l.groups (circuit l.initial.logic) → IsPlace p l.first → IsAccess p names (circuit l.initial.logic) l.first.array.0 0 l.outside
      → MakesPorts p names (circuit l.initial.logic) (circuit l.logic) l.first.array.0 l.ports.items;
  count : length l.ports.items ≡ l.port;
}
