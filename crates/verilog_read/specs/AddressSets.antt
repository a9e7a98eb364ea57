-- Which addresses a set of them has.
use Rattle.std.specs.Prelude.{Bool, false, ◌==◌, ◌&&◌}
use Rattle.std.specs.List.{list_any}
use Rattle.rtl_core.specs.declared.design.Atom.{Atom}
use Rattle.rtl_core.specs.declared.design.Atom.TheVariants as atom
use Rattle.verilog_read.specs.declared.widths.Address.{Address}
use Rattle.verilog_read.specs.declared.widths.Address.TheVariants as address
use Rattle.verilog_read.specs.declared.widths.PortAddress.{PortAddress}
use Rattle.verilog_read.specs.declared.widths.Addresses.{Addresses as CodeAddresses}
use Rattle.verilog_read.specs.Faults.{Addresses}

abbrev pub address_of : Atom → Address
address_of (atom.Constant bits value) = address.Constant bits value
address_of (atom.Input k) = address.Input k
address_of (atom.Reg k) = address.Reg k
address_of (atom.Wire k) = address.Wire k

abbrev pub same_address : Address → Address → Bool
same_address (address.Constant b v) (address.Constant c w) = (b == c) && (v == w)
same_address (address.Input j) (address.Input k) = j == k
same_address (address.Reg j) (address.Reg k) = j == k
same_address (address.Wire j) (address.Wire k) = j == k
same_address _ _ = false

abbrev pub same_port : PortAddress → PortAddress → Bool
same_port x y = (x.memory == y.memory) && same_address x.address y.address

abbrev pub addresses_in : CodeAddresses → Addresses
addresses_in set memory a = list_any (same_port (record { memory = memory; address = address_of a })) set.known.keys
