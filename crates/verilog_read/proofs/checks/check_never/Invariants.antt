use Rattle.std.proofs.Common.{◌≡◌, map, drop}
use Rattle.verilog_syntax.specs.ModuleViews.{declared_view}
use Rattle.verilog_read.specs.Earliest.{noted}
use Rattle.verilog_read.specs.Faults.{never_faults, declared_names}
use Rattle.verilog_read.proofs.checks.check_never.Given as goal

abbrev pub invariant-loop-i : goal.invariant-loop-i
invariant-loop-i l =
    noted l.first.found (never_faults l.slots l.i (declared_names (map declared_view (drop l.i l.declared)))) ≡ noted l.initial.first.found (never_faults l.slots 0 (declared_names (map declared_view l.declared)))
