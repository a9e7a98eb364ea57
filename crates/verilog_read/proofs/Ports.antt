-- The ports of a block, by its edges.
use Rattle.std.proofs.Common.{◌≡◌, ℕ, ◌+◌, ◌<◌, ◌≤◌, List, [], ◌∷◌, length, map, drop, get_or, Some, None, refl, sym, ap, ◌∙◌}
use Rattle.std.proofs.lemmas.Option.{none-some, same_Some}
use Rattle.std.proofs.lemmas.List.{drop-map, drop_all}
use Rattle.rtl_core.specs.declared.design.Port.{Port}
use Rattle.rtl_core.proofs.Checks.{map_drop}
use Rattle.verilog_syntax.specs.declared.module.Drive.{Drive as CodeDrive}
use Rattle.verilog_syntax.specs.ModuleViews.{drive_view}
use Rattle.verilog_syntax.specs.PlacedSyntax.{Drive, register, first, further}
use Rattle.verilog_read.specs.Scope.{Scope}
use Rattle.verilog_read.specs.Circuit.{first_port, port_of, block_ports, further_ports}

begins : (scope : Scope) (y : Drive) (ds : List Drive) (p : Port) → first_port scope y ≡ Some p → block_ports scope (y ∷ ds) ≡ p ∷ further_ports scope ds
begins scope (register enable name next) ds p e = absurd (none-some p e)
begins scope (first x) ds p e = ap (λ q. q ∷ further_ports scope ds) (same_Some (port_of scope x) p e)
begins scope (further x) ds p e = absurd (none-some p e)

begins_not : (scope : Scope) (y : Drive) (ds : List Drive) → first_port scope y ≡ None → block_ports scope (y ∷ ds) ≡ []
begins_not scope (register enable name next) ds e = refl
begins_not scope (first x) ds e = absurd (none-some (port_of scope x) (sym e))
begins_not scope (further x) ds e = refl

at_start : (xs : List CodeDrive) (i : ℕ) (d : CodeDrive) → i < length xs → drop i (map drive_view xs) ≡ drive_view (get_or xs i d) ∷ map drive_view (drop (i + 1) xs)
at_start xs i d h = drop-map drive_view i xs ∙ map_drop drive_view xs i d h

pub block_begins : (scope : Scope) (xs : List CodeDrive) (i : ℕ) (d : CodeDrive) (p : Port) → i < length xs → first_port scope (drive_view (get_or xs i d)) ≡ Some p
    → block_ports scope (drop i (map drive_view xs)) ≡ p ∷ further_ports scope (map drive_view (drop (i + 1) xs))
block_begins scope xs i d p h e = ap (block_ports scope) (at_start xs i d h) ∙ begins scope (drive_view (get_or xs i d)) (map drive_view (drop (i + 1) xs)) p e

pub block_begins_not : (scope : Scope) (xs : List CodeDrive) (i : ℕ) (d : CodeDrive) → i < length xs → first_port scope (drive_view (get_or xs i d)) ≡ None → block_ports scope (drop i (map drive_view xs)) ≡ []
block_begins_not scope xs i d h e = ap (block_ports scope) (at_start xs i d h) ∙ begins_not scope (drive_view (get_or xs i d)) (map drive_view (drop (i + 1) xs)) e

pub block_beyond : (scope : Scope) (xs : List CodeDrive) (i : ℕ) → length xs ≤ i → block_ports scope (drop i (map drive_view xs)) ≡ []
block_beyond scope xs i h = ap (block_ports scope) (drop-map drive_view i xs ∙ ap (map drive_view) (drop_all i xs h))
