use Rattle.std.proofs.Common.{◌≡◌, map, take}
use Rattle.c_value.specs.Values.{width}
use Rattle.ir_lower.proofs.frame.widths_of.Given as goal

abbrev pub invariant-loop-kind : goal.invariant-loop-kind
invariant-loop-kind l = l.widths.items ≡ map width (take l.kind-index l.kinds)
