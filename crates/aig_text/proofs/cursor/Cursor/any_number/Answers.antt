use Rattle.aig_text.specs.Reading as reading
use Rattle.aig_text.specs.Reading.{ReadsSome, AnySize, Saturates}
use Rattle.aig_text.proofs.Reading.{passed}
use Rattle.aig_text.proofs.Atoms.{number_found, number_end}
use Rattle.aig_text.proofs.cursor.Cursor.any_number.Goals as goal

pub returns-in_err-n : goal.returns-in_err-n
returns-in_err-n c =
    passed (λ r. ReadsSome (reading.any_number c.args.end) Saturates r c.args.self.now c.any_digits.new.self) _ c.from_residual.ensures.1 (λ y e. e) (λ y h. h) c.in_err-n.ensures (λ k. k c.args.end c.requires)

pub returns-in_err-word : goal.returns-in_err-word
returns-in_err-word c =
    let d = c.in_ok-n.ensures in
    passed (λ r. ReadsSome (reading.any_number c.args.end) Saturates r c.args.self.now c.word.new.self) _ c.from_residual-in_err-word.ensures.1 (λ y e. e) (λ y h. h) c.in_err-word.ensures
    (λ k. number_end AnySize c.args.end d.0 _ _ _ c.requires tt d.3 d.4 k)

pub returns : goal.returns
returns c =
    let d = c.in_ok-n.ensures in
    (d.0, d.1, number_found AnySize c.args.end d.0 _ _ _ tt d.3 c.in_ok-word.ensures)
