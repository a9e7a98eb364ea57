use Rattle.std.proofs.Common.{◌≡◌, map, drop}
use Rattle.std.specs.Prelude.{max}
use Rattle.report_rows.specs.Initial.{initial_cycles, greatest, filling, AreAddressed}
use Rattle.report_rows.proofs.initial.initial_cycles.Given as goal

abbrev pub invariant-loop-memory : goal.invariant-loop-memory
invariant-loop-memory l =
    AreAddressed l.frame.memories.items → max l.cycles (greatest (map filling (drop l.memory-index l.frame.memories.items))) ≡ initial_cycles l.frame
