use Rattle.std.proofs.Common.{◌≡◌, ℕ, ◌||◌, map, drop}
use Rattle.rtl_core.specs.declared.design.Atom.{Atom}
use Rattle.verilog_syntax.specs.ModuleViews.{drive_view}
use Rattle.verilog_read.specs.NameTable.{scope_in}
use Rattle.verilog_read.specs.AddressSets.{addresses_in}
use Rattle.verilog_read.specs.Faults.{port_addresses}
use Rattle.verilog_read.proofs.widths.addresses_of.Given as goal

abbrev pub invariant-loop-drive : goal.invariant-loop-drive
invariant-loop-drive l =
    (k : ℕ) (a : Atom) → (addresses_in l.all k a || port_addresses (scope_in l.names) (map drive_view (drop l.drive-index l.drives)) k a) ≡ port_addresses (scope_in l.names) (map drive_view l.drives) k a
