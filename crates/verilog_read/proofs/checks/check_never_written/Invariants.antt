use Rattle.std.proofs.Common.{◌≡◌, map, drop}
use Rattle.verilog_syntax.specs.ModuleViews.{memory_view}
use Rattle.verilog_read.specs.Earliest.{noted}
use Rattle.verilog_read.specs.Faults.{never_faults, memory_names}
use Rattle.verilog_read.proofs.checks.check_never_written.Given as goal

abbrev pub invariant-loop-i : goal.invariant-loop-i
invariant-loop-i l =
    noted l.first.found (never_faults l.slots l.i (memory_names (map memory_view (drop l.i l.memories)))) ≡ noted l.initial.first.found (never_faults l.slots 0 (memory_names (map memory_view l.memories)))
