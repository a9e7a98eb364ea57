use Rattle.std.proofs.Common.{◌≡◌, take, true}
use Rattle.c_token.specs.Replacement.{none_first}
use Rattle.c_macro.proofs.tokens.line_length.Given as goal

abbrev pub invariant-loop-i : goal.invariant-loop-i
invariant-loop-i l = none_first (take l.i l.tokens) ≡ true
