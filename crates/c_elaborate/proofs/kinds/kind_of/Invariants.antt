use Rattle.std.proofs.Common.{◌≡◌}
use Rattle.pieces.specs.Resolved.CoreView.{core_of}
use Rattle.c_elaborate.specs.Expressions.{kind_of as spec_kind_of}
use Rattle.c_elaborate.proofs.kinds.kind_of.Given as goal

abbrev pub invariant-comma : goal.invariant-comma
invariant-comma l = spec_kind_of (core_of l.part) ≡ spec_kind_of (core_of l.fn.e)
