-- The wires of results.
use Rattle.std.specs.Prelude.{◌≡◌, ℕ, List, get_or, map, [], Option, Some, None}
use Rattle.rtl_core.specs.declared.design.Atom.{Atom}
use Rattle.rtl_core.specs.Netlist.{Netlist}
use Rattle.datapath.specs.Plans.{Plan}
use Rattle.datapath.specs.Cycles.{Register}
use Rattle.datapath.specs.Values.{arriving}
use Rattle.circuit_context.specs.Wanted.Logs.{CarriesSome}
use Rattle.circuit_units.specs.declared.demands.demands.Computed.{Computed}

-- the wire of operation k of node i, if it has one
abbrev pub wire_at : Computed → ℕ → ℕ → Option Atom
wire_at computed i k = get_or (get_or (map (λ row. row.items) computed.wires.items) i []) k None

-- each wire carries the result of its operation
abbrev pub AreComputed : Plan → List Register → Netlist → Computed → Type 0
AreComputed p names d computed = (i k : ℕ) (a : Atom) → wire_at computed i k ≡ Some a → CarriesSome p names d a (λ c. arriving p c i k)
