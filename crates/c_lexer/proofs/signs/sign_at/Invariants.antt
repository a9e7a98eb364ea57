use Rattle.std.proofs.Common.{◌≡◌, drop}
use Rattle.std.specs.Prelude.{find}
use Rattle.c_token.proofs.Signs.{all_signs}
use Rattle.c_lexer.specs.Signs.{stands}
use Rattle.c_lexer.proofs.signs.sign_at.Given as goal

abbrev pub invariant-loop-punct : goal.invariant-loop-punct
invariant-loop-punct l =
    find (stands l.is_first l.bytes) (drop l.punct-index all_signs) ≡ find (stands l.is_first l.bytes) all_signs
