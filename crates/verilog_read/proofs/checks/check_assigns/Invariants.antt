use Rattle.std.proofs.Common.{◌≡◌, map, drop}
use Rattle.verilog_syntax.specs.ModuleViews.{assign_view}
use Rattle.verilog_read.specs.NameTable.{scope_in}
use Rattle.verilog_read.specs.Earliest.{noted}
use Rattle.verilog_read.specs.Faults.{assign_faults, after_assigns}
use Rattle.verilog_read.proofs.checks.check_assigns.Given as goal

abbrev pub invariant-loop-i : goal.invariant-loop-i
invariant-loop-i l =
    (noted l.first.found (assign_faults (scope_in l.names) l.outputs l.i (map assign_view (drop l.i l.assigns)))
    ≡ noted l.initial.first.found (assign_faults (scope_in l.names) l.initial.outputs 0 (map assign_view l.assigns)))
    × (after_assigns (scope_in l.names) l.outputs l.i (map assign_view (drop l.i l.assigns)) ≡ after_assigns (scope_in l.names) l.initial.outputs 0 (map assign_view l.assigns))
