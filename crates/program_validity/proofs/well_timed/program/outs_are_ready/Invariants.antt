use Rattle.std.proofs.Common.{◌≡◌, drop}
use Rattle.std.specs.List.{list_all}
use Rattle.program_validity.specs.Nodes.{is_out_ready}
use Rattle.program_validity.proofs.well_timed.program.outs_are_ready.Given as goal

abbrev pub invariant-loop-out : goal.invariant-loop-out
invariant-loop-out l = list_all (is_out_ready l.ops l.time) (drop l.out-index l.outs) ≡ list_all (is_out_ready l.ops l.time) l.outs
