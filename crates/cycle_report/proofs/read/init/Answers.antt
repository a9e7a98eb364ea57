use Rattle.std.proofs.Common.{◌∙◌, sym, refl}
use Rattle.cycle_report.proofs.Reading.{view_found, view_stuck, first_stuck, later_stuck, later_found, passed}
use Rattle.cycle_report.proofs.Atoms.{nothing_found}
use Rattle.cycle_report.proofs.Forms.{init_none, init_some, newline}
use Rattle.cycle_report.proofs.read.init.Goals as goal

pub returns-then-not-is_at : goal.returns-then-not-is_at
returns-then-not-is_at c = view_found (init_none _ (sym c.is_at.ensures ∙ c.if-not-is_at.true)) (nothing_found _)

pub returns-in_err-init : goal.returns-in_err-init
returns-in_err-init c =
    passed _ _ c.from_residual.ensures.1 (λ y e. e) c.in_err-init.ensures
    (λ k. view_stuck (init_some _ (sym c.is_at.ensures ∙ c.if-not-is_at.false)) (first_stuck k newline (λ y v i f. refl)))

pub returns-in_err-word : goal.returns-in_err-word
returns-in_err-word c =
    passed _ _ c.from_residual-in_err-word.ensures.1 (λ y e. e) c.in_err-word.ensures
    (λ k. view_stuck (init_some _ (sym c.is_at.ensures ∙ c.if-not-is_at.false)) (later_stuck c.in_ok-init.ensures k (λ y v i f. refl)))

pub returns : goal.returns
returns c = view_found (init_some _ (sym c.is_at.ensures ∙ c.if-not-is_at.false)) (later_found c.in_ok-init.ensures c.in_ok-word.ensures (λ y v i f. refl))
