use Rattle.std.proofs.Common.{◌≡◌, ◌==◌, not, filter, length}
use Rattle.cosim_levels.specs.Rows.{texts_of}
use Rattle.cosim_levels.proofs.words.words_between.Given as goal

abbrev pub invariant-loop-part : goal.invariant-loop-part
invariant-loop-part l = texts_of l.words.items ≡ filter (λ part. not (length part == 0)) (texts_of l.yielded)
