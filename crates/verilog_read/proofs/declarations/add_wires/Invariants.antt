use Rattle.std.proofs.Common.{◌≡◌, ◌++◌, map, drop}
use Rattle.verilog_syntax.specs.ModuleViews.{wire_view}
use Rattle.verilog_read.specs.Scope.{wires_from}
use Rattle.verilog_read.specs.DeclarationViews.{declaration_views}
use Rattle.verilog_read.proofs.declarations.add_wires.Given as goal

abbrev pub invariant-loop-i : goal.invariant-loop-i
invariant-loop-i l =
    declaration_views l.all.items ++ wires_from l.i (map wire_view (drop l.i l.declared)) ≡ declaration_views l.initial.all.items ++ wires_from 0 (map wire_view l.declared)
