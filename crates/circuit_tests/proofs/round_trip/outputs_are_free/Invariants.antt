use Rattle.std.proofs.Common.{take}
use Rattle.std.specs.List.{All}
use Rattle.rtl_core.specs.declared.design.OutPin.{OutPin}
use Rattle.verilog_print.specs.PrintableNames.{IsNumbered}
use Rattle.circuit_tests.proofs.round_trip.outputs_are_free.Given as goal

abbrev pub invariant-loop-pin : goal.invariant-loop-pin
invariant-loop-pin l = All (λ (o : OutPin). ¬ IsNumbered o.name) (take l.pin-index l.pins)
