use Rattle.std.proofs.Common.{◌*◌}
use Rattle.aig_text.specs.GraphText.{number_text}
use Rattle.aig_text.specs.Forms as forms
use Rattle.aig_text.specs.Reading.{Reads, number}
use Rattle.aig_text.proofs.Reading.{passed, joined, view_found, view_stuck, first_stuck, later_stuck, later_found}
use Rattle.aig_text.proofs.Atoms.{unique_word}
use Rattle.aig_text.proofs.Graphs.{latch_view, has_literal}
use Rattle.aig_text.proofs.rows.latch.Goals as goal

pub returns-in_err-exactly : goal.returns-in_err-exactly
returns-in_err-exactly c =
    let high = c.args.high in
    let k = c.args.k in
    passed (λ r. Reads (forms.latch high k) r c.args.cursor.now c.exactly.new.self) _ c.from_residual.ensures.1 (λ y e. e) (λ y h. h) c.in_err-exactly.ensures
    (λ q. view_stuck (latch_view high k) (first_stuck q (λ x i. has_literal high 10)))

pub returns : goal.returns
returns c =
    let high = c.args.high in
    let k = c.args.k in
    joined (number high 10) _ (λ r. Reads (forms.latch high k) r c.args.cursor.now c.number.new.self) c.number.ensures
    (λ x q. view_found (latch_view high k) (later_found _ c.in_ok-exactly.ensures q)) (λ y h. h)
    (λ q. view_stuck (latch_view high k) (later_stuck _ (unique_word (number_text 32 (2 * k))) c.in_ok-exactly.ensures q))
