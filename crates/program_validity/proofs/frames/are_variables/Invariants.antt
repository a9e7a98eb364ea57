use Rattle.std.proofs.Common.{◌≡◌, drop}
use Rattle.program_validity.specs.Frames.{are_variables}
use Rattle.program_validity.proofs.frames.are_variables.Given as goal

abbrev pub invariant-loop-variable : goal.invariant-loop-variable
invariant-loop-variable l = are_variables l.widths (drop l.variable-index l.variables) ≡ are_variables l.widths l.variables
