use Rattle.std.proofs.Common.{◌≡◌, drop}
use Rattle.ir_core.specs.Bodies.{is_within}
use Rattle.flat_programs.proofs.memory.bank.are_within.Given as goal

abbrev pub invariant-loop-index : goal.invariant-loop-index
invariant-loop-index l = is_within (drop l.index l.lengths) (drop l.index l.subscripts) ≡ is_within l.lengths l.subscripts
