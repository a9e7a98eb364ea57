use Rattle.std.proofs.Common.{sym, subst}
use Rattle.rtl_core.specs.Valid.{IsValid}
use Rattle.verilog_print.specs.PrintableNames.{HasPrintableNames}
use Rattle.verilog_print.proofs.ExamplesValid.{counter_valid, counter_names}
use Rattle.circuit_tests.proofs.printing.a_counter.Goals as goal

pub print-requires-clause-valid : goal.print-requires-clause-valid
print-requires-clause-valid g c = subst IsValid (sym c.in_ok-design.ensures) counter_valid

pub print-requires-clause-names : goal.print-requires-clause-names
print-requires-clause-names g c = subst HasPrintableNames (sym c.in_ok-design.ensures) counter_names
