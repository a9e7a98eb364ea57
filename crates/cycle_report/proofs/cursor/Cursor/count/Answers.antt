use Rattle.cycle_report.specs.Reading.{word, number}
use Rattle.cycle_report.proofs.Reading.{any_follows, passed, joined, view_stuck, view_found, first_stuck, later_stuck, later_found}
use Rattle.cycle_report.proofs.Atoms.{some_number, count_view}
use Rattle.cycle_report.proofs.cursor.Cursor.count.Goals as goal

pub returns-in_err-word : goal.returns-in_err-word
returns-in_err-word c =
    let w = c.args.words.now in
    passed (word w) _ c.from_residual.ensures.1 (λ y e. e) c.in_err-word.ensures
    (λ k. view_stuck (count_view w c.args.low c.args.high _) (first_stuck k (some_number c.args.low c.args.high c.requires.high) (λ y v i f. any_follows _)))

pub returns : goal.returns
returns c =
    let w = c.args.words.now in
    let u = count_view w c.args.low c.args.high _ in
    joined _ (number c.args.low c.args.high) c.number.result c.number.ensures
    (λ x k. view_found u (later_found c.in_ok-word.ensures k (λ y v i f. any_follows _))) (λ k. view_stuck u (later_stuck c.in_ok-word.ensures k (λ y v i f. any_follows _)))
