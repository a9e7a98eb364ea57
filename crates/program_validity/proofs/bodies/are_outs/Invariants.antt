use Rattle.std.proofs.Common.{◌≡◌, drop}
use Rattle.std.specs.List.{list_all}
use Rattle.program_validity.specs.Bodies.{is_out}
use Rattle.program_validity.proofs.bodies.are_outs.Given as goal

abbrev pub invariant-loop-out : goal.invariant-loop-out
invariant-loop-out g l = list_all (is_out l.frame l.carried l.ops) (drop l.out-index l.outs) ≡ list_all (is_out l.frame l.carried l.ops) l.outs
