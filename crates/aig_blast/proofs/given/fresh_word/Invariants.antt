use Rattle.std.proofs.Common.{◌≡◌}
use Rattle.aig_blast.specs.Literals.{literals_from}
use Rattle.aig_blast.proofs.given.fresh_word.Given as goal

abbrev pub invariant-loop-i : goal.invariant-loop-i
invariant-loop-i l = l.word.items ≡ literals_from l.first l.i
