use Rattle.std.proofs.Common.{refl, codes}
use Rattle.cycle_report.proofs.Reading.{any_follows, view_found, view_stuck, first_stuck, later_stuck, later_found, has_both, passed}
use Rattle.cycle_report.proofs.Atoms.{some_name}
use Rattle.cycle_report.proofs.Forms.{some32, memory_view, some8, newline}
use Rattle.cycle_report.proofs.lines.memory.Goals as goal

pub returns-in_err-word : goal.returns-in_err-word
returns-in_err-word c =
    passed _ _ c.from_residual.ensures.1 (λ y e. e) c.in_err-word.ensures
    (λ k. view_stuck (memory_view _) (first_stuck k (has_both some_name (has_both (some8 (codes " bits ")) (has_both (some32 (codes " depth ")) (has_both (some8 (codes " ports ")) newline)))) (λ y v i f. any_follows _)))

pub returns-in_err-name : goal.returns-in_err-name
returns-in_err-name c =
    passed _ _ c.from_residual-in_err-name.ensures.1 (λ y e. e) c.in_err-name.ensures
    (λ k. view_stuck (memory_view _) (later_stuck c.in_ok-word.ensures (first_stuck k (has_both (some8 (codes " bits ")) (has_both (some32 (codes " depth ")) (has_both (some8 (codes " ports ")) newline))) (λ y v i f. refl)) (λ y v i f. any_follows _)))

pub returns-in_err-bits : goal.returns-in_err-bits
returns-in_err-bits c =
    passed _ _ c.from_residual-in_err-bits.ensures.1 (λ y e. e) c.in_err-bits.ensures
    (λ k. view_stuck (memory_view _) (later_stuck c.in_ok-word.ensures (later_stuck c.in_ok-name.ensures (first_stuck k (has_both (some32 (codes " depth ")) (has_both (some8 (codes " ports ")) newline)) (λ y v i f. refl)) (λ y v i f. refl)) (λ y v i f. any_follows _)))

pub returns-in_err-depth : goal.returns-in_err-depth
returns-in_err-depth c =
    passed _ _ c.from_residual-in_err-depth.ensures.1 (λ y e. e) c.in_err-depth.ensures
    (λ k. view_stuck (memory_view _) (later_stuck c.in_ok-word.ensures (later_stuck c.in_ok-name.ensures (later_stuck c.in_ok-bits.ensures (first_stuck k (has_both (some8 (codes " ports ")) newline) (λ y v i f. refl)) (λ y v i f. refl)) (λ y v i f. refl)) (λ y v i f. any_follows _)))

pub returns-in_err-ports : goal.returns-in_err-ports
returns-in_err-ports c =
    passed _ _ c.from_residual-in_err-ports.ensures.1 (λ y e. e) c.in_err-ports.ensures
    (λ k. view_stuck (memory_view _) (later_stuck c.in_ok-word.ensures (later_stuck c.in_ok-name.ensures (later_stuck c.in_ok-bits.ensures (later_stuck c.in_ok-depth.ensures (first_stuck k newline (λ y v i f. refl)) (λ y v i f. refl)) (λ y v i f. refl)) (λ y v i f. refl)) (λ y v i f. any_follows _)))

pub returns-in_err-word-2 : goal.returns-in_err-word-2
returns-in_err-word-2 c =
    passed _ _ c.from_residual-in_err-word-2.ensures.1 (λ y e. e) c.in_err-word-2.ensures
    (λ k. view_stuck (memory_view _) (later_stuck c.in_ok-word.ensures (later_stuck c.in_ok-name.ensures (later_stuck c.in_ok-bits.ensures (later_stuck c.in_ok-depth.ensures (later_stuck c.in_ok-ports.ensures k (λ y v i f. refl)) (λ y v i f. refl)) (λ y v i f. refl)) (λ y v i f. refl)) (λ y v i f. any_follows _)))

pub returns : goal.returns
returns c = view_found (memory_view _) (later_found c.in_ok-word.ensures (later_found c.in_ok-name.ensures (later_found c.in_ok-bits.ensures (later_found c.in_ok-depth.ensures (later_found c.in_ok-ports.ensures c.in_ok-word-2.ensures (λ y v i f. refl)) (λ y v i f. refl)) (λ y v i f. refl)) (λ y v i f. refl)) (λ y v i f. any_follows _))
