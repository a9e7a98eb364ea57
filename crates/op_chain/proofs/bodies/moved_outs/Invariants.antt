use Rattle.std.proofs.Common.{◌≡◌, ◌++◌, map, drop}
use Rattle.op_chain.specs.Fusing.{moved_out}
use Rattle.op_chain.proofs.bodies.moved_outs.Given as goal

abbrev pub invariant-loop-out : goal.invariant-loop-out
invariant-loop-out l = l.done.items ++ map (moved_out l.now) (drop l.out-index l.outs) ≡ map (moved_out l.now) l.outs
