use Rattle.std.proofs.Common.{drop}
use Rattle.hls_base.specs.Memory.{HasDistinctNames}
use Rattle.hls_base.proofs.memory.names_differ.Given as goal

abbrev pub invariant-loop-i : goal.invariant-loop-i
invariant-loop-i l =
    (HasDistinctNames (drop l.i l.files) → HasDistinctNames l.files) × (HasDistinctNames l.files → HasDistinctNames (drop l.i l.files))
