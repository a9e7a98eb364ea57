use Rattle.std.proofs.Common.{◌≡◌, ◌≤◌, length, map, take}
use Rattle.clock_machine.specs.Acts.{ReadsAreWithin}
use Rattle.clock_machine.specs.Lines.Registers.{word_read}
use Rattle.clock_machine.proofs.acts.read_all.Given as goal

abbrev pub invariant-loop-index : goal.invariant-loop-index
invariant-loop-index l =
    length l.reads ≤ length l.initial.into → ReadsAreWithin l.registers l.lines l.reads → take l.index l.into ≡ map (word_read l.registers l.lines) (take l.index l.reads)
