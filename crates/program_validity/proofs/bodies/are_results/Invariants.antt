use Rattle.std.proofs.Common.{◌≡◌, drop}
use Rattle.std.specs.List.{list_all}
use Rattle.program_validity.specs.Bodies.{is_result_out}
use Rattle.program_validity.proofs.bodies.are_results.Given as goal

abbrev pub invariant-loop-out : goal.invariant-loop-out
invariant-loop-out l = list_all is_result_out (drop l.out-index l.outs) ≡ list_all is_result_out l.outs
