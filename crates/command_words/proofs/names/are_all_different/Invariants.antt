use Rattle.std.proofs.Common.{◌≡◌, ◌∷◌, drop}
use Rattle.command_words.specs.Commands as spec
use Rattle.command_words.proofs.Differing.{differ_after, texts}
use Rattle.command_words.proofs.names.are_all_different.Given as goal

abbrev pub invariant-loop-other : goal.invariant-loop-other
invariant-loop-other l =
    differ_after (texts l.seen.keys) (texts (drop l.other-index l.others)) ≡ spec.all_differ (l.first ∷ texts l.others)
