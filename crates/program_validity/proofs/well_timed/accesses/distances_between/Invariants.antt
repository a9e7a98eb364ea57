use Rattle.std.proofs.Common.{◌≡◌, drop}
use Rattle.dep_graph.specs.Offsets.{sums_of}
use Rattle.dep_graph.specs.Meetings.{subscripts_of, distances_from}
use Rattle.program_validity.specs.Untimed.{untimed_op, untimed_body}
use Rattle.program_validity.specs.Checks.{distances}
use Rattle.program_validity.proofs.well_timed.accesses.distances_between.Given as goal

abbrev pub invariant-loop-index : goal.invariant-loop-index
invariant-loop-index l =
    distances_from l.distances (drop l.index (subscripts_of (untimed_body l.body) (sums_of (untimed_body l.body)) (untimed_op l.from))) (drop l.index (subscripts_of (untimed_body l.body) (sums_of (untimed_body l.body)) (untimed_op l.to)))
    ≡ distances l.body l.from l.to
