use Rattle.std.proofs.Common.{◌≡◌, ◌++◌, drop}
use Rattle.passes.specs.Lowering.{targets}
use Rattle.ir_lower.proofs.arms.targets.Given as goal

abbrev pub invariant-loop-label : goal.invariant-loop-label
invariant-loop-label l = l.targets.items ++ targets l.labels l.pieces (drop l.label-index l.labels) ≡ targets l.labels l.pieces l.labels
