use Rattle.std.proofs.Common.{codes, ◌++◌, ◌∙◌, ap, sym}
use Rattle.cycle_report.proofs.Appends.{then_number, then_text}
use Rattle.cycle_report.proofs.Texts.{head_flat}
use Rattle.cycle_report.proofs.print.print_head.Goals as goal

pub returns-clause-text : goal.returns-clause-text
returns-clause-text c =
    then_text _ _ _ (codes "hls-report 1\ntop ") _ c.in_ok-extend_from_slice.ensures.items
    (then_text _ _ _ _ _ (c.in_ok-extend_from_slice-2.ensures.items ∙ ap (λ t. c.extend_from_slice.new.self.items ++ t) c.items.ensures)
    (then_number _ _ _ (codes "\nsettings mul ") _ _ c.in_ok-print_u8.ensures.text
    (then_number _ _ _ (codes " div ") _ _ c.in_ok-print_u8-2.ensures.text
    (then_number _ _ _ (codes " ports ") _ _ c.in_ok-print_u8-3.ensures.text
    (then_number _ _ _ (codes " plain ") _ _ (c.in_ok-extend_from_slice-3.ensures.items ∙ ap (λ t. c.print_u8-3.new.out.items ++ t) c.plain_text.ensures)
    (then_text _ _ _ _ _ c.in_ok-print_some.ensures
    (then_number _ _ _ (codes "\nbase ") _ _ c.in_ok-print_u64.ensures.text c.in_ok-extend_from_slice-4.ensures.items)))))))
    ∙ ap (λ t. c.args.out.now.items ++ t) (sym (head_flat _ _))
