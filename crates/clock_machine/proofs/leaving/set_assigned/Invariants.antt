use Rattle.std.proofs.Common.{◌≡◌, ◌≤◌, length, drop}
use Rattle.clock_machine.specs.Leaving.{AssignmentsAreThere, with_words}
use Rattle.clock_machine.specs.Lines.Registers.{held}
use Rattle.clock_machine.proofs.leaving.set_assigned.Given as goal

abbrev pub invariant-loop-index : goal.invariant-loop-index
invariant-loop-index l =
    length l.assignments ≤ length l.words → AssignmentsAreThere l.assignments (length l.initial.variables)
    → with_words (drop l.index l.assignments) (drop l.index l.words) (held l.variables) ≡ with_words l.assignments l.words (held l.initial.variables)
