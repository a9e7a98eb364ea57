use Rattle.std.proofs.Common.{◌≡◌, ◌++◌, take, drop, map}
use Rattle.rtl_logic.specs.Pruning.{Marked, renamed_port}
use Rattle.rtl_logic.specs.Marking.{AreNumbers}
use Rattle.rtl_logic.proofs.prune.Numbers.ports.Given as goal

abbrev pub invariant-loop-port : goal.invariant-loop-port
invariant-loop-port l = (m : Marked) → AreNumbers l.self m → l.ports ≡ map (renamed_port m) (take l.port-index l.initial.ports) ++ drop l.port-index l.initial.ports
