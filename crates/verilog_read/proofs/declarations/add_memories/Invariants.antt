use Rattle.std.proofs.Common.{◌≡◌, ◌++◌, map, drop}
use Rattle.verilog_syntax.specs.ModuleViews.{memory_view}
use Rattle.verilog_read.specs.Scope.{memories_from}
use Rattle.verilog_read.specs.DeclarationViews.{declaration_views}
use Rattle.verilog_read.proofs.declarations.add_memories.Given as goal

abbrev pub invariant-loop-i : goal.invariant-loop-i
invariant-loop-i l =
    declaration_views l.all.items ++ memories_from l.i (map memory_view (drop l.i l.declared)) ≡ declaration_views l.initial.all.items ++ memories_from 0 (map memory_view l.declared)
