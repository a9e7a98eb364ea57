use Rattle.std.proofs.Common.{◌≡◌, drop}
use Rattle.passes.specs.Lowering.Copies.{all_fixed}
use Rattle.ir_lower.specs.Copies.{fixed_of}
use Rattle.ir_lower.proofs.copies.all_fixed.Given as goal

abbrev pub invariant-loop-arg : goal.invariant-loop-arg
invariant-loop-arg l = all_fixed (fixed_of l.fixed) l.args ≡ all_fixed (fixed_of l.fixed) (drop l.arg-index l.args)
