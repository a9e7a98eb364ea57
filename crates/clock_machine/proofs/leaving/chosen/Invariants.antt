use Rattle.std.proofs.Common.{◌≡◌, drop}
use Rattle.clock_machine.specs.Leaving.{CasesAreWithin, chosen_in}
use Rattle.clock_machine.specs.Lines.Registers.{word_read}
use Rattle.clock_machine.proofs.leaving.chosen.Given as goal

abbrev pub invariant-loop-case : goal.invariant-loop-case
invariant-loop-case l =
    CasesAreWithin l.registers l.lines l.cases → chosen_in (word_read l.registers l.lines) (drop l.case-index l.cases) l.other ≡ chosen_in (word_read l.registers l.lines) l.cases l.other
