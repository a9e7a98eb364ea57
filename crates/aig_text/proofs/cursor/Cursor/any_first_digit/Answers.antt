use Rattle.aig_text.specs.Reading.{AnySize}
use Rattle.aig_text.proofs.Atoms.{first_taken, number_none}
use Rattle.aig_text.proofs.cursor.Cursor.any_first_digit.Goals as goal

pub returns-in-Some : goal.returns-in-Some
returns-in-Some c = let n = c.in-Some.ensures in (n.0, tt, first_taken _ _ _ _ n.1.1 n.0 c.advance.ensures)

pub returns-in-None : goal.returns-in-None
returns-in-None c = λ end h. number_none AnySize end _ tt c.in-None.ensures
