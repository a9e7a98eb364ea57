use Rattle.std.proofs.Common.{◌≤◌}
use Rattle.aig_text.specs.Forms as forms
use Rattle.aig_text.specs.Reading.{Found}
use Rattle.aig_text.proofs.rows.outputs.Given as goal

abbrev pub invariant-loop : goal.invariant-loop
invariant-loop l = (l.counter ≤ l.count) × Found (forms.rows (forms.output l.high) 0 l.counter) l.literals.items l.fn.cursor l.cursor
