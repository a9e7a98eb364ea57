use Rattle.std.proofs.Common.{codes, ◌++◌, ◌∙◌, ap}
use Rattle.cycle_report.proofs.Appends.{then_number, then_text}
use Rattle.cycle_report.proofs.print.print_memory.Goals as goal

pub returns-clause-text : goal.returns-clause-text
returns-clause-text c =
    then_text _ _ _ (codes "memory ") _ c.in_ok-extend_from_slice.ensures.items
    (then_text _ _ _ _ _ (c.in_ok-extend_from_slice-2.ensures.items ∙ ap (λ t. c.extend_from_slice.new.self.items ++ t) c.items.ensures)
    (then_number _ _ _ (codes " bits ") _ _ c.in_ok-print_u8.ensures.text
    (then_number _ _ _ (codes " depth ") _ _ c.in_ok-print_u32.ensures.text
    (then_number _ _ _ (codes " ports ") _ _ c.in_ok-print_u8-2.ensures.text c.in_ok-extend_from_slice-3.ensures.items))))

pub returns-clause-fits : goal.returns-clause-fits
returns-clause-fits c = record { bits = c.in_ok-print_u8.ensures.fits; depth = c.in_ok-print_u32.ensures.fits; ports = c.in_ok-print_u8-2.ensures.fits }
