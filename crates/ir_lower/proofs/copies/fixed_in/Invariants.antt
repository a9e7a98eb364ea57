use Rattle.std.proofs.Common.{◌≡◌, drop, map, []}
use Rattle.ir_core.specs.Bodies.{op_of}
use Rattle.passes.specs.Lowering.Copies.{with_ops}
use Rattle.ir_lower.specs.Copies.{is_in, fixed_of}
use Rattle.ir_lower.proofs.copies.fixed_in.Given as goal

abbrev pub invariant-loop-op : goal.invariant-loop-op
invariant-loop-op l = with_ops (fixed_of l.fixed) (map op_of (drop l.op-index l.ops)) ≡ with_ops (record { variables = is_in l.fn.variables.items; ops = [] }) (map op_of l.ops)
