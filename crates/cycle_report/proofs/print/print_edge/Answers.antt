use Rattle.std.proofs.Common.{codes}
use Rattle.cycle_report.proofs.Appends.{then_number}
use Rattle.cycle_report.proofs.print.print_edge.Goals as goal

pub returns-clause-text : goal.returns-clause-text
returns-clause-text c =
    then_number _ _ _ (codes "edge ") _ _ c.in_ok-print_u32.ensures.text
    (then_number _ _ _ (codes " ") _ _ c.in_ok-print_u32-2.ensures.text
    (then_number _ _ _ (codes " ") _ _ c.in_ok-print_u32-3.ensures.text
    (then_number _ _ _ (codes " ") _ _ c.in_ok-print_u32-4.ensures.text c.in_ok-extend_from_slice.ensures.items)))
