use Rattle.std.proofs.Common.{◌≡◌, map, drop}
use Rattle.verilog_syntax.specs.ModuleViews.{name_view}
use Rattle.verilog_read.specs.DeclarationViews.{declaration_view, declaration_views}
use Rattle.verilog_read.specs.Earliest.{noted}
use Rattle.verilog_read.specs.Faults.{turn_faults}
use Rattle.verilog_read.proofs.declarations.check_turns.Given as goal

abbrev pub invariant-loop-i : goal.invariant-loop-i
invariant-loop-i l =
    noted l.first.found (turn_faults (map name_view (drop l.i l.header)) (map declaration_view (drop l.i l.pins))) ≡ noted l.initial.first.found (turn_faults (map name_view l.header) (declaration_views l.pins))
