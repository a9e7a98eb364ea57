use Rattle.std.proofs.Common.{◌≡◌, drop}
use Rattle.passes.specs.Lowering.Copies.{is_among}
use Rattle.ir_lower.proofs.copies.is_among.Given as goal

abbrev pub invariant-loop-other : goal.invariant-loop-other
invariant-loop-other l = is_among l.operand l.operands ≡ is_among l.operand (drop l.other-index l.operands)
