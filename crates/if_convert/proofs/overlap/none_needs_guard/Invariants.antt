use Rattle.std.proofs.Common.{◌≡◌, map, drop}
use Rattle.ir_core.specs.Bodies.{op_of}
use Rattle.passes.specs.Conversion.Overlapping as spec
use Rattle.if_convert.proofs.overlap.none_needs_guard.Given as goal

abbrev pub invariant-loop-op : goal.invariant-loop-op
invariant-loop-op l = spec.none_needs_guard (map op_of (drop l.op-index l.ops)) ≡ spec.none_needs_guard (map op_of l.ops)
