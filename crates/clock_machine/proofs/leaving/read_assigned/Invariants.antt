use Rattle.std.proofs.Common.{◌≡◌, ◌≤◌, length, map, take}
use Rattle.clock_machine.specs.declared.lines.program.Assignment.{Assignment}
use Rattle.clock_machine.specs.Leaving.{AssignmentsAreWithin}
use Rattle.clock_machine.specs.Lines.Registers.{word_read}
use Rattle.clock_machine.proofs.leaving.read_assigned.Given as goal

abbrev pub invariant-loop-index : goal.invariant-loop-index
invariant-loop-index l =
    length l.assignments ≤ length l.initial.into → AssignmentsAreWithin l.registers l.lines l.assignments
    → take l.index l.into ≡ map (λ (x : Assignment). word_read l.registers l.lines x.value) (take l.index l.assignments)
