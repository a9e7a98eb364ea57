use Rattle.rtl_core.specs.Netlist.{netlist_of}
use Rattle.rtl_logic.specs.Pruning.{Marked, IsClosed}
use Rattle.rtl_logic.specs.Marking.{search_of, StaysIn, Rounds}
use Rattle.rtl_logic.proofs.prune.Marks.follow_times.Given as goal

abbrev pub invariant-loop-round : goal.invariant-loop-round
invariant-loop-round l = record {
  rounds : Rounds (netlist_of l.design) l._round (search_of l.initial.self) (search_of l.self);
  least : (n : Marked) → IsClosed (netlist_of l.design) n → StaysIn n (search_of l.initial.self) (search_of l.self);
}
