use Rattle.std.proofs.Common.{◌≡◌, ◌-◌, ◌++◌}
use Rattle.aig_graph.specs.Words.{constant_word}
use Rattle.aig_graph.proofs.constant.constant.Given as goal

abbrev pub invariant-loop-i : goal.invariant-loop-i
invariant-loop-i l = l.word.items ++ constant_word (l.bits - l._i) l.rest ≡ constant_word l.bits l.value
