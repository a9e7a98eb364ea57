use Rattle.std.proofs.Common.{◌≡◌, take, map}
use Rattle.rtl_logic.specs.Pruning.{Marked, kept, renamed_reg}
use Rattle.rtl_logic.specs.Marking.{AreNumbers}
use Rattle.rtl_logic.proofs.prune.registers_left.Given as goal

abbrev pub invariant-loop-k : goal.invariant-loop-k
invariant-loop-k l = (m : Marked) → AreNumbers l.numbers m → l.left.items ≡ map (renamed_reg m) (kept (take l.k l.marks) (take l.k l.regs))
