use Rattle.std.proofs.Common.{◌≡◌, List, [], length, map}
use Rattle.rtl_logic.specs.Making.{circuit}
use Rattle.datapath.specs.Plans.{Plan}
use Rattle.datapath.specs.Cycles.{Register}
use Rattle.circuit_units.specs.Memories.Places.{IsReady}
use Rattle.circuit_units.proofs.MemoriesLemmas.Arrays.{AddsFirst}
use Rattle.circuit_units.proofs.memories.memories.add_memories.Given as goal

abbrev pub invariant-loop-place : goal.invariant-loop-place
invariant-loop-place l = record {
  added : (p : Plan) (names : List Register) → IsReady p names l.of l.groups (circuit l.initial.logic) → (circuit l.initial.logic).mems ≡ []
      → AddsFirst p names (circuit l.initial.logic) (circuit l.logic) (map (λ ports. ports.items) l.ports.items);
  count : length l.ports.items ≡ l.place;
}
