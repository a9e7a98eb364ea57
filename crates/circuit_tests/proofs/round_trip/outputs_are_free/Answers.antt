use Rattle.std.proofs.Common.{subst, List, ℕ}
use Rattle.rtl_core.proofs.Checks.{passes_more, passes_all}
use Rattle.rtl_core.specs.declared.design.OutPin.{OutPin}
use Rattle.verilog_print.specs.PrintableNames.{IsNumbered}
use Rattle.circuit_tests.proofs.round_trip.outputs_are_free.Goals as goal

pub loop-pin-preserved : goal.loop-pin-preserved
loop-pin-preserved c =
    passes_more (λ (o : OutPin). ¬ IsNumbered o.name) c.args.pins.now c.loop-pin.pin-index c.pin-item.result c.loop-pin-test.true c.pin-item.is
    (subst (λ (n : List ℕ). ¬ IsNumbered n) c.items.ensures (c.is_free.ensures c.if-not-is_free.false)) c.loop-pin.invariant

pub returns : goal.returns
returns c = λ t. passes_all (λ (o : OutPin). ¬ IsNumbered o.name) c.args.pins.now c.loop-pin.pin-index c.loop-pin-test.false c.loop-pin.invariant
