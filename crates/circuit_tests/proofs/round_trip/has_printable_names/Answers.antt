use Rattle.std.proofs.Common.{subst}
use Rattle.std.specs.List.{All}
use Rattle.rtl_core.specs.declared.design.Pin.{Pin}
use Rattle.rtl_core.specs.declared.design.OutPin.{OutPin}
use Rattle.verilog_print.specs.PrintableNames.{IsNumbered}
use Rattle.circuit_tests.proofs.PrintableNames.{names_printable}
use Rattle.circuit_tests.proofs.round_trip.has_printable_names.Goals as goal

pub returns-then-inputs_are_free : goal.returns-then-inputs_are_free
returns-then-inputs_are_free c =
    λ t. names_printable c.args.design.now.inputs.items c.args.design.now.outputs.items
    (subst (All (λ (p : Pin). ¬ IsNumbered p.name)) c.as_slice.ensures.value (c.inputs_are_free.ensures c.if-inputs_are_free.true))
    (subst (All (λ (o : OutPin). ¬ IsNumbered o.name)) c.as_slice-then-inputs_are_free.ensures.value (c.outputs_are_free.ensures t))
