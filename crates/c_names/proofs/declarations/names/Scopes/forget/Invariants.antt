use Rattle.std.proofs.Common.{◌≡◌, drop}
use Rattle.c_names.proofs.declarations.names.Scopes.forget.Given as goal

abbrev pub invariant-loop-i : goal.invariant-loop-i
invariant-loop-i l = l.self ≡ drop l.i l.initial.self
