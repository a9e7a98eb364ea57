use Rattle.std.proofs.Common.{◌≡◌, ◌++◌, map, drop}
use Rattle.verilog_syntax.specs.ModuleViews.{declared_view}
use Rattle.verilog_read.specs.Scope.{declared_from}
use Rattle.verilog_read.specs.DeclarationViews.{declaration_views}
use Rattle.verilog_read.proofs.declarations.add_declared.Given as goal

abbrev pub invariant-loop-i : goal.invariant-loop-i
invariant-loop-i l =
    declaration_views l.all.items ++ declared_from l.sort l.i (map declared_view (drop l.i l.declared)) ≡ declaration_views l.initial.all.items ++ declared_from l.sort 0 (map declared_view l.declared)
