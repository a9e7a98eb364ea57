use Rattle.std.proofs.Common.{◌≡◌, drop, length}
use Rattle.c_token.specs.Replacement.{same_kinds}
use Rattle.c_macro.proofs.tokens.same_kinds.Given as goal

abbrev pub invariant-loop-i : goal.invariant-loop-i
invariant-loop-i l = (length l.tokens ≡ length l.others) × (same_kinds l.tokens l.others ≡ same_kinds (drop l.i l.tokens) (drop l.i l.others))
