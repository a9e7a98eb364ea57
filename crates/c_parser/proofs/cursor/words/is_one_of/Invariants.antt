use Rattle.std.proofs.Common.{◌≡◌, ℕ, List, map, drop, Bor}
use Rattle.c_token.specs.Replacement.{is_in}
use Rattle.c_parser.proofs.cursor.words.is_one_of.Given as goal

abbrev pub invariant-loop-word : goal.invariant-loop-word
invariant-loop-word l =
    is_in l.text (map (λ (w : Bor (List ℕ)). w.now) (drop l.word-index l.words)) ≡ is_in l.text (map (λ (w : Bor (List ℕ)). w.now) l.words)
