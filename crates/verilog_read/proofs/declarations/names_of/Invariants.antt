use Rattle.std.proofs.Common.{map, drop}
use Rattle.verilog_read.specs.NameTable.{scope_in}
use Rattle.verilog_read.specs.DeclarationViews.{declaration_view, declaration_views}
use Rattle.verilog_read.proofs.Declaring.{Naming}
use Rattle.verilog_read.proofs.declarations.names_of.Given as goal

abbrev pub invariant-loop-declaration : goal.invariant-loop-declaration
invariant-loop-declaration l = Naming (declaration_views l.all) (map declaration_view (drop l.declaration-index l.all)) (scope_in l.names) l.initial.first.found l.first.found
