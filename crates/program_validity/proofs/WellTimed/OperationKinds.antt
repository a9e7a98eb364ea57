-- What holds of each kind of operation.
use Rattle.std.proofs.Common.{ℕ, ◌≤◌, arith}
use Rattle.ir_core.specs.declared.body.OpKind.{OpKind}
use Rattle.ir_core.specs.declared.body.OpKind.TheVariants as o
use Rattle.ir_core.specs.Timing.{occupancy}

pub some_cycle : (kind : OpKind) (bits : ℕ) → 1 ≤ occupancy kind bits
some_cycle o.Add bits = omega arith
some_cycle o.Sub bits = omega arith
some_cycle o.Mul bits = omega arith
some_cycle o.Div bits = omega arith
some_cycle o.Rem bits = omega arith
some_cycle o.And bits = omega arith
some_cycle o.Or bits = omega arith
some_cycle o.Xor bits = omega arith
some_cycle o.Shl bits = omega arith
some_cycle o.Shr bits = omega arith
some_cycle o.Eq bits = omega arith
some_cycle o.Ne bits = omega arith
some_cycle o.Lt bits = omega arith
some_cycle o.Le bits = omega arith
some_cycle o.Not bits = omega arith
some_cycle o.Neg bits = omega arith
some_cycle o.Select bits = omega arith
some_cycle o.Widen bits = omega arith
some_cycle o.Narrow bits = omega arith
some_cycle o.Truth bits = omega arith
some_cycle o.Copy bits = omega arith
some_cycle o.Load bits = omega arith
some_cycle o.Store bits = omega arith
some_cycle (o.Fused p) bits = omega arith
