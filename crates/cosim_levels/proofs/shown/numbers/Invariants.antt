use Rattle.std.proofs.Common.{◌≡◌, map, take}
use Rattle.c_value.specs.Values.{number_of}
use Rattle.cosim_levels.proofs.shown.numbers.Given as goal

abbrev pub invariant-loop-word : goal.invariant-loop-word
invariant-loop-word l = l.numbers.items ≡ map (number_of l.kind) (take l.word-index l.words)
