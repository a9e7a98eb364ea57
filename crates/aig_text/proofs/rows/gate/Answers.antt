use Rattle.std.proofs.Common.{◌*◌, ◌-◌}
use Rattle.aig_text.specs.GraphText.{number_text}
use Rattle.aig_text.specs.Forms as forms
use Rattle.aig_text.specs.Reading.{Reads, AtMost}
use Rattle.aig_text.proofs.Reading.{passed, view_found, view_stuck, first_stuck, later_stuck, later_found}
use Rattle.aig_text.proofs.Atoms.{unique_word, unique_number}
use Rattle.aig_text.proofs.Graphs.{gate_view, has_literal, has_right}
use Rattle.aig_text.proofs.rows.gate.Goals as goal
use Rattle.std.proofs.Common.{refl}

pub returns-in_err-exactly : goal.returns-in_err-exactly
returns-in_err-exactly c =
    let k = c.args.k in
    passed (λ r. Reads (forms.gate k) r c.args.cursor.now c.exactly.new.self) _ c.from_residual.ensures.1 (λ y e. e) (λ y h. h) c.in_err-exactly.ensures
    (λ q. view_stuck (gate_view k c.requires.low) (first_stuck q (λ x i. has_right k)))

pub returns-in_err-left : goal.returns-in_err-left
returns-in_err-left c =
    let k = c.args.k in
    passed (λ r. Reads (forms.gate k) r c.args.cursor.now c.number.new.self) _ c.from_residual-in_err-left.ensures.1 (λ y e. e) (λ y h. h) c.in_err-left.ensures
    (λ q. view_stuck (gate_view k c.requires.low) (later_stuck _ (unique_word (number_text 32 (2 * k))) c.in_ok-exactly.ensures (first_stuck q (λ x i. has_literal (2 * k - 1) 10))))

pub returns-in_err-right : goal.returns-in_err-right
returns-in_err-right c =
    let k = c.args.k in
    passed (λ r. Reads (forms.gate k) r c.args.cursor.now c.number-2.new.self) _ c.from_residual-in_err-right.ensures.1 (λ y e. e) (λ y h. h) c.in_err-right.ensures
    (λ q. view_stuck (gate_view k c.requires.low) (later_stuck _ (unique_word (number_text 32 (2 * k))) c.in_ok-exactly.ensures (later_stuck _ (unique_number (AtMost (2 * k - 1)) 32 refl) c.in_ok-left.ensures q)))

pub returns : goal.returns
returns c =
    let k = c.args.k in
    view_found (gate_view k c.requires.low) (later_found _ c.in_ok-exactly.ensures (later_found _ c.in_ok-left.ensures c.in_ok-right.ensures))
