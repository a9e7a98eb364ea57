use Rattle.std.proofs.Common.{◌≡◌, drop}
use Rattle.passes.specs.Lowering.Outs.{held}
use Rattle.ir_lower.proofs.sets.held.Given as goal

abbrev pub invariant-loop-out : goal.invariant-loop-out
invariant-loop-out l = held l.outs l.variable ≡ held (drop l.out-index l.outs) l.variable
