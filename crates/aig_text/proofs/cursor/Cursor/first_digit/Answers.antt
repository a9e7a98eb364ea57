use Rattle.std.proofs.Common.{arith}
use Rattle.aig_text.specs.Reading.{AtMost}
use Rattle.aig_text.proofs.Atoms.{first_taken, number_none, number_outside}
use Rattle.aig_text.proofs.cursor.Cursor.first_digit.Goals as goal

pub returns-in-Some : goal.returns-in-Some
returns-in-Some c = let n = c.in-Some.ensures in (n.0, c.if-digit-high.true, first_taken _ _ _ _ n.1.1 n.0 c.advance.ensures)

pub returns-in_default : goal.returns-in_default
returns-in_default c = let n = c.in-Some.ensures in λ end h. number_outside _ end _ _ _ n.1.1 n.0 c.if-digit-high.false

pub returns-in_default-2 : goal.returns-in_default-2
returns-in_default-2 c = λ end h. number_none (AtMost c.args.high) end _ (omega arith) c.in_default.ensures
