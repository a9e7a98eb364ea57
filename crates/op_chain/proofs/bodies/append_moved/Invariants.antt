use Rattle.std.proofs.Common.{◌≡◌, ◌++◌, map, drop}
use Rattle.op_chain.specs.Fusing.{moved}
use Rattle.op_chain.proofs.bodies.append_moved.Given as goal

abbrev pub invariant-loop-operand : goal.invariant-loop-operand
invariant-loop-operand l = l.args.items ++ map (moved l.now) (drop l.operand-index l.operands) ≡ l.initial.args.items ++ map (moved l.now) l.operands
