use Rattle.std.proofs.Common.{◌≡◌, drop}
use Rattle.passes.specs.Lowering.Copies.{outs_set}
use Rattle.ir_lower.proofs.sets.outs_set.Given as goal

abbrev pub invariant-loop-out : goal.invariant-loop-out
invariant-loop-out l = outs_set l.outs l.variable ≡ outs_set (drop l.out-index l.outs) l.variable
