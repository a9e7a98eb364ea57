use Rattle.std.proofs.Common.{◌≡◌, drop}
use Rattle.c_token.specs.Replacement.{is_in}
use Rattle.c_names.proofs.declarations.names.is_in.Given as goal

abbrev pub invariant-loop-other : goal.invariant-loop-other
invariant-loop-other l = is_in l.word (drop l.other-index l.words) ≡ is_in l.word l.words
