-- Declarations without where they lie in memory.
use Rattle.std.specs.Prelude.{List, map}
use Rattle.verilog_read.specs.declared.declarations.Declaration.{Declaration as CodeDeclaration}
use Rattle.verilog_syntax.specs.ModuleViews.{name_view}
use Rattle.verilog_read.specs.Scope.{Declaration}

abbrev pub declaration_view : CodeDeclaration → Declaration
declaration_view d = record { name = name_view d.name; entry = d.entry }

abbrev pub declaration_views : List CodeDeclaration → List Declaration
declaration_views ds = map declaration_view ds
