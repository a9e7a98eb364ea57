use Rattle.aig_text.specs.Forms as forms
use Rattle.aig_text.specs.Reading.{Found}
use Rattle.aig_text.proofs.rows.gates.Given as goal

abbrev pub invariant-loop-k : goal.invariant-loop-k
invariant-loop-k l = Found (forms.rows forms.gate l.first l.k) l.gates.items l.fn.cursor l.cursor
