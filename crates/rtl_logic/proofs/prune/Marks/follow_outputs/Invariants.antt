use Rattle.std.proofs.Common.{take}
use Rattle.std.specs.List.{All}
use Rattle.rtl_core.specs.declared.design.OutPin.{OutPin}
use Rattle.rtl_logic.specs.Pruning.{Marked, IsMarked}
use Rattle.rtl_logic.specs.Marking.{marked_of, search_of, Spreads, StaysIn}
use Rattle.rtl_logic.proofs.prune.Marks.follow_outputs.Given as goal

abbrev pub invariant-loop-pin : goal.invariant-loop-pin
invariant-loop-pin l = record {
  spreads : Spreads (search_of l.initial.self) (search_of l.self);
  marked : All (λ (o : OutPin). IsMarked (marked_of l.self) o.from) (take l.pin-index l.outputs);
  least : (n : Marked) → All (λ (o : OutPin). IsMarked n o.from) l.outputs → StaysIn n (search_of l.initial.self) (search_of l.self);
}
