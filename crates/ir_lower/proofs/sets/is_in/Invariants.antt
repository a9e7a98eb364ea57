use Rattle.std.proofs.Common.{◌≡◌, drop}
use Rattle.ir_lower.specs.Copies.{is_in}
use Rattle.ir_lower.proofs.sets.is_in.Given as goal

abbrev pub invariant-loop-other : goal.invariant-loop-other
invariant-loop-other l = is_in l.variables l.variable ≡ is_in (drop l.other-index l.variables) l.variable
