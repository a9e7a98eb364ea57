use Rattle.std.proofs.Common.{◌≡◌, ◌++◌, take, drop, map}
use Rattle.rtl_logic.specs.Pruning.{Marked, renamed_output}
use Rattle.rtl_logic.specs.Marking.{AreNumbers}
use Rattle.rtl_logic.proofs.prune.renumber_outputs.Given as goal

abbrev pub invariant-loop-pin : goal.invariant-loop-pin
invariant-loop-pin l = (m : Marked) → AreNumbers l.numbers m → l.outputs ≡ map (renamed_output m) (take l.pin-index l.initial.outputs) ++ drop l.pin-index l.initial.outputs
