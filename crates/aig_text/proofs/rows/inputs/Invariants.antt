use Rattle.std.proofs.Common.{List}
use Rattle.aig_text.specs.Forms as forms
use Rattle.aig_text.specs.Reading.{Found}
use Rattle.aig_text.proofs.rows.inputs.Given as goal

abbrev pub invariant-loop-k : goal.invariant-loop-k
invariant-loop-k l = (us : List (Unit {0})) × Found (forms.rows forms.input 1 l.k) us l.fn.cursor l.cursor
