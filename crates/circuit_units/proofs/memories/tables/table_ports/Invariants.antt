use Rattle.std.proofs.Common.{◌≡◌, ℕ, List, Some, length}
use Rattle.rtl_logic.specs.Making.{circuit}
use Rattle.datapath.specs.Plans.{Plan, array_at}
use Rattle.datapath.specs.Cycles.{Register}
use Rattle.circuit_units.specs.Memories.Places.{IsReady, IsPlace, IsInside, AreWordsOf, MakesTablePorts}
use Rattle.circuit_units.proofs.memories.tables.table_ports.Given as goal

abbrev pub invariant-loop-port : goal.invariant-loop-port
invariant-loop-port l = record {
  made : (p : Plan) (names : List Register) (elements : List ℕ) → IsReady p names l.of l.groups (circuit l.initial.logic) → IsPlace p l.first → ((n : ℕ) → IsInside p l.first.array.0 n)
      → (array_at p l.first.array.0).table ≡ Some elements → AreWordsOf p l.first.array.0 elements l.words
      → MakesTablePorts p names (circuit l.initial.logic) (circuit l.logic) l.first.array.0 l.wires.items;
  count : length l.wires.items ≡ l.port;
}
