use Rattle.aig_text.specs.Forms as forms
use Rattle.aig_text.specs.Reading.{Found}
use Rattle.aig_text.proofs.rows.latches.Given as goal

abbrev pub invariant-loop-k : goal.invariant-loop-k
invariant-loop-k l = Found (forms.rows (forms.latch l.high) l.first l.k) l.nexts.items l.fn.cursor l.cursor
