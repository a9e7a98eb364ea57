use Rattle.std.proofs.Common.{◌≡◌, map}
use Rattle.passes.specs.Conversion.Overlapping as spec
use Rattle.if_convert.specs.Entries.{outs_of}
use Rattle.ir_core.specs.Bodies.{op_of}
use Rattle.if_convert.proofs.overlap.carried_ops.Given as goal

abbrev pub invariant-loop-op : goal.invariant-loop-op
invariant-loop-op l = map op_of l.done.items ≡ map (spec.carried_op (outs_of l.sets)) (map op_of l.yielded)
