use Rattle.std.proofs.Common.{arith}
use Rattle.std.proofs.Common.{refl, codes}
use Rattle.cycle_report.proofs.Reading.{any_follows, view_found, view_stuck, first_stuck, later_stuck, later_found, has_both, passed}
use Rattle.cycle_report.proofs.Atoms.{some_name}
use Rattle.cycle_report.proofs.Forms.{newline, head_view, plain_follows, some_base, some_period, some_plain, some_range}
use Rattle.cycle_report.proofs.read.head.Goals as goal

pub returns-in_err-word : goal.returns-in_err-word
returns-in_err-word c =
    passed _ _ c.from_residual.ensures.1 (λ y e. e) c.in_err-word.ensures
    (λ k. view_stuck (head_view _) (first_stuck k (has_both some_name (has_both (some_range (codes "\nsettings mul ") 8 (omega arith)) (has_both (some_range (codes " div ") 4 (omega arith)) (has_both (some_range (codes " ports ") 2 (omega arith)) (has_both some_plain (has_both some_period some_base)))))) (λ y v i f. any_follows _)))

pub returns-in_err-top : goal.returns-in_err-top
returns-in_err-top c =
    passed _ _ c.from_residual-in_err-top.ensures.1 (λ y e. e) c.in_err-top.ensures
    (λ k. view_stuck (head_view _) (later_stuck c.in_ok-word.ensures (first_stuck k (has_both (some_range (codes "\nsettings mul ") 8 (omega arith)) (has_both (some_range (codes " div ") 4 (omega arith)) (has_both (some_range (codes " ports ") 2 (omega arith)) (has_both some_plain (has_both some_period some_base))))) (λ y v i f. refl)) (λ y v i f. any_follows _)))

pub returns-in_err-mul : goal.returns-in_err-mul
returns-in_err-mul c =
    passed _ _ c.from_residual-in_err-mul.ensures.1 (λ y e. e) c.in_err-mul.ensures
    (λ k. view_stuck (head_view _) (later_stuck c.in_ok-word.ensures (later_stuck c.in_ok-top.ensures (first_stuck k (has_both (some_range (codes " div ") 4 (omega arith)) (has_both (some_range (codes " ports ") 2 (omega arith)) (has_both some_plain (has_both some_period some_base)))) (λ y v i f. refl)) (λ y v i f. refl)) (λ y v i f. any_follows _)))

pub returns-in_err-div : goal.returns-in_err-div
returns-in_err-div c =
    passed _ _ c.from_residual-in_err-div.ensures.1 (λ y e. e) c.in_err-div.ensures
    (λ k. view_stuck (head_view _) (later_stuck c.in_ok-word.ensures (later_stuck c.in_ok-top.ensures (later_stuck c.in_ok-mul.ensures (first_stuck k (has_both (some_range (codes " ports ") 2 (omega arith)) (has_both some_plain (has_both some_period some_base))) (λ y v i f. refl)) (λ y v i f. refl)) (λ y v i f. refl)) (λ y v i f. any_follows _)))

pub returns-in_err-ports : goal.returns-in_err-ports
returns-in_err-ports c =
    passed _ _ c.from_residual-in_err-ports.ensures.1 (λ y e. e) c.in_err-ports.ensures
    (λ k. view_stuck (head_view _) (later_stuck c.in_ok-word.ensures (later_stuck c.in_ok-top.ensures (later_stuck c.in_ok-mul.ensures (later_stuck c.in_ok-div.ensures (first_stuck k (has_both some_plain (has_both some_period some_base)) (λ y v i f. refl)) (λ y v i f. refl)) (λ y v i f. refl)) (λ y v i f. refl)) (λ y v i f. any_follows _)))

pub returns-in_err-plain : goal.returns-in_err-plain
returns-in_err-plain c =
    passed _ _ c.from_residual-in_err-plain.ensures.1 (λ y e. e) c.in_err-plain.ensures
    (λ k. view_stuck (head_view _) (later_stuck c.in_ok-word.ensures (later_stuck c.in_ok-top.ensures (later_stuck c.in_ok-mul.ensures (later_stuck c.in_ok-div.ensures (later_stuck c.in_ok-ports.ensures (first_stuck k (has_both some_period some_base) plain_follows) (λ y v i f. refl)) (λ y v i f. refl)) (λ y v i f. refl)) (λ y v i f. refl)) (λ y v i f. any_follows _)))

pub returns-in_err-period : goal.returns-in_err-period
returns-in_err-period c =
    passed _ _ c.from_residual-in_err-period.ensures.1 (λ y e. e) c.in_err-period.ensures
    (λ k. view_stuck (head_view _) (later_stuck c.in_ok-word.ensures (later_stuck c.in_ok-top.ensures (later_stuck c.in_ok-mul.ensures (later_stuck c.in_ok-div.ensures (later_stuck c.in_ok-ports.ensures (later_stuck c.in_ok-plain.ensures (first_stuck k some_base (λ y v i f. refl)) plain_follows) (λ y v i f. refl)) (λ y v i f. refl)) (λ y v i f. refl)) (λ y v i f. refl)) (λ y v i f. any_follows _)))

pub returns-in_err-base : goal.returns-in_err-base
returns-in_err-base c =
    passed _ _ c.from_residual-in_err-base.ensures.1 (λ y e. e) c.in_err-base.ensures
    (λ k. view_stuck (head_view _) (later_stuck c.in_ok-word.ensures (later_stuck c.in_ok-top.ensures (later_stuck c.in_ok-mul.ensures (later_stuck c.in_ok-div.ensures (later_stuck c.in_ok-ports.ensures (later_stuck c.in_ok-plain.ensures (later_stuck c.in_ok-period.ensures (first_stuck k newline (λ y v i f. refl)) (λ y v i f. refl)) plain_follows) (λ y v i f. refl)) (λ y v i f. refl)) (λ y v i f. refl)) (λ y v i f. refl)) (λ y v i f. any_follows _)))

pub returns-in_err-word-2 : goal.returns-in_err-word-2
returns-in_err-word-2 c =
    passed _ _ c.from_residual-in_err-word-2.ensures.1 (λ y e. e) c.in_err-word-2.ensures
    (λ k. view_stuck (head_view _) (later_stuck c.in_ok-word.ensures (later_stuck c.in_ok-top.ensures (later_stuck c.in_ok-mul.ensures (later_stuck c.in_ok-div.ensures (later_stuck c.in_ok-ports.ensures (later_stuck c.in_ok-plain.ensures (later_stuck c.in_ok-period.ensures (later_stuck c.in_ok-base.ensures k (λ y v i f. refl)) (λ y v i f. refl)) plain_follows) (λ y v i f. refl)) (λ y v i f. refl)) (λ y v i f. refl)) (λ y v i f. refl)) (λ y v i f. any_follows _)))

pub returns : goal.returns
returns c = view_found (head_view _) (later_found c.in_ok-word.ensures (later_found c.in_ok-top.ensures (later_found c.in_ok-mul.ensures (later_found c.in_ok-div.ensures (later_found c.in_ok-ports.ensures (later_found c.in_ok-plain.ensures (later_found c.in_ok-period.ensures (later_found c.in_ok-base.ensures c.in_ok-word-2.ensures (λ y v i f. refl)) (λ y v i f. refl)) plain_follows) (λ y v i f. refl)) (λ y v i f. refl)) (λ y v i f. refl)) (λ y v i f. refl)) (λ y v i f. any_follows _))
