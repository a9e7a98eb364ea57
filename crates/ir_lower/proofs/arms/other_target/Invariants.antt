use Rattle.std.proofs.Common.{◌≡◌, drop}
use Rattle.passes.specs.Lowering.{other}
use Rattle.ir_lower.proofs.arms.other_target.Given as goal

abbrev pub invariant-loop-label : goal.invariant-loop-label
invariant-loop-label l = other l.labels l.pieces (drop l.label-index l.labels) ≡ other l.labels l.pieces l.labels
