use Rattle.std.proofs.Common.{◌≡◌, take, map}
use Rattle.rtl_logic.specs.Pruning.{Marked, kept, renamed_wire}
use Rattle.rtl_logic.specs.Marking.{AreNumbers}
use Rattle.rtl_logic.proofs.prune.wires_left.Given as goal

abbrev pub invariant-loop-k : goal.invariant-loop-k
invariant-loop-k l = (m : Marked) → AreNumbers l.numbers m → l.left.items ≡ map (renamed_wire m) (kept (take l.k l.marks) (take l.k l.wires))
