-- What the entries of a name table say.
use Rattle.std.specs.Prelude.{ℕ, List, bytes_eq}
use Rattle.std.specs.Borrow.{Bor}
use Rattle.indexmap.specs.IndexMap.{get_by}
use Rattle.verilog_read.specs.declared.names.Names.{Names}
use Rattle.verilog_read.specs.Scope.{Scope}

abbrev pub scope_in : Names → Scope
scope_in names name = get_by (λ (key : Bor (List ℕ)). bytes_eq name key.now) names.entries
