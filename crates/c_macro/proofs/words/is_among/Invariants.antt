use Rattle.std.proofs.Common.{◌≡◌, drop}
use Rattle.std.specs.Prelude.{map}
use Rattle.c_token.specs.Replacement.{is_in}
use Rattle.c_macro.proofs.words.is_among.Given as goal

abbrev pub invariant-loop-other : goal.invariant-loop-other
invariant-loop-other l = is_in l.word (map (λ w. w.now) l.words) ≡ is_in l.word (map (λ w. w.now) (drop l.other-index l.words))
