use Rattle.std.proofs.Common.{◌≡◌, map}
use Rattle.passes.specs.Conversion.Joining as spec
use Rattle.if_convert.specs.Views.{joined_of}
use Rattle.if_convert.specs.Entries.{outs_of}
use Rattle.ir_core.specs.Bodies.{op_of}
use Rattle.if_convert.proofs.joining.Joined.join_ops.Given as goal

abbrev pub invariant-loop-op : goal.invariant-loop-op
invariant-loop-op l = joined_of l.self ≡ spec.joined_ops l.behind.variables.now (outs_of l.behind.sets.now) l.behind.test (joined_of l.initial.self) (map op_of l.yielded)
