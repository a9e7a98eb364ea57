use Rattle.std.proofs.Common.{◌≡◌, map, take}
use Rattle.report_rows.specs.Resources.{declared_names}
use Rattle.report_rows.proofs.resources.memory_names.Given as goal

abbrev pub invariant-loop-memory : goal.invariant-loop-memory
invariant-loop-memory l = map (λ name. name.now) l.names.items ≡ declared_names (take l.memory-index l.memories)
