use Rattle.std.proofs.Common.{codes}
use Rattle.cycle_report.proofs.Appends.{then_number}
use Rattle.cycle_report.proofs.print.print_units.Goals as goal

pub returns-clause-text : goal.returns-clause-text
returns-clause-text c =
    then_number _ _ _ (codes "units mul32 ") _ _ c.in_ok-print_u32.ensures.text
    (then_number _ _ _ (codes " mul64 ") _ _ c.in_ok-print_u32-2.ensures.text
    (then_number _ _ _ (codes " div32 ") _ _ c.in_ok-print_u32-3.ensures.text
    (then_number _ _ _ (codes " div64 ") _ _ c.in_ok-print_u32-4.ensures.text c.in_ok-extend_from_slice.ensures.items)))

pub returns-clause-fits : goal.returns-clause-fits
returns-clause-fits c = record { mul32 = c.in_ok-print_u32.ensures.fits; mul64 = c.in_ok-print_u32-2.ensures.fits; div32 = c.in_ok-print_u32-3.ensures.fits; div64 = c.in_ok-print_u32-4.ensures.fits }
