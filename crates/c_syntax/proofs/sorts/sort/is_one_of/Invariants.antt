use Rattle.std.proofs.Common.{◌≡◌, ℕ, List, map, drop, Bor}
use Rattle.c_token.specs.Replacement.{is_in}
use Rattle.c_syntax.proofs.sorts.sort.is_one_of.Given as goal

abbrev pub invariant-loop-word : goal.invariant-loop-word
invariant-loop-word l =
    is_in l.text (map (λ (w : Bor (List ℕ)). w.now) l.words) ≡ is_in l.text (drop l.word-index (map (λ (w : Bor (List ℕ)). w.now) l.words))
