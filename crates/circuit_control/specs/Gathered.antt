-- What is wanted of a target in a cycle, and bits of which one is 1.
use Rattle.std.specs.Prelude.{◌≡◌, ◌&&◌, ◌-◌, ℕ, Bool, List, [], ◌∷◌, map, flat_map}
use Rattle.std.specs.List.{All, list_any, range_with_len}
use Rattle.rtl_core.specs.declared.design.Atom.{Atom}
use Rattle.rtl_core.specs.Netlist.{Netlist}
use Rattle.rtl_core.specs.ClockStep.{State, widths, seen}
use Rattle.rtl_core.specs.Valid.{HasBits}
use Rattle.rtl_logic.specs.Making.{Appends}
use Rattle.rtl_logic.specs.Choosing.{is_any, where_}
use Rattle.datapath.specs.Plans.{Plan, numbered}
use Rattle.datapath.specs.Cycles.{Register, Gate, Contents, Signal, Cycle, in_cycle, holds, bit}
use Rattle.datapath.specs.Control.{is_tested, test_holds, next_done, next_ready}
use Rattle.datapath.specs.CircuitWires.Carrying.{IsMoment, IsBegun}
use Rattle.circuit_context.specs.declared.wanted.role.Role.TheVariants as role
use Rattle.circuit_context.specs.declared.wanted.role.Target.{Target}
use Rattle.circuit_context.specs.declared.wanted.role.Target.TheVariants as t
use Rattle.circuit_context.specs.Wanted.Roles.{same_target}
use Rattle.circuit_context.specs.Wanted.Entries.{Entry, bit_entry, register_entry, always_entry, state_entries}

-- the entry is for this target, and wanted
abbrev pub asks : Target → Cycle → Entry → Bool
asks target c it = same_target target it.target && (it.write c).wanted

-- something is wanted of the target
abbrev pub is_asked : Target → List Entry → Cycle → Bool
is_asked target entries c = list_any (asks target c) entries

-- bits of which in each cycle one is 1 where this holds
pub record TellTogether (p : Plan) (names : List Register) (d : Netlist) (bits : List Atom) (holds_ : Cycle → Bool) : Type 0 where
  pub fits : All (HasBits (widths d) 1) bits
  pub any : (e : Netlist) (s : State) (pins : List ℕ) (x : Contents) (signals : Signal → ℕ) → IsMoment p names d e s pins x
      → is_any (seen e s pins) bits ≡ holds_ (in_cycle x signals pins)

-- they are made by appending wires
pub record MakesTogether (p : Plan) (names : List Register) (d e : Netlist) (bits : List Atom) (holds_ : Cycle → Bool) : Type 0 where
  pub appends : Appends d e
  pub begun : IsBegun p names e
  pub tell : TellTogether p names e bits holds_

-- ---- entries

-- the entries of the test of a loop
abbrev pub test_entries : Plan → ℕ → List Entry
test_entries p i =
    bit_entry t.Tested (λ c. is_tested p c i) ∷ register_entry (role.Gate 0) (λ c. where_ (is_tested p c i) (bit (holds c (Gate 0) && test_holds p c i))) ∷ []

-- gates behind the first one take with this bit what the gates before them hold
abbrev pub moved_entries : (Cycle → Bool) → ℕ → List Entry
moved_entries moved count = map (λ (k : ℕ). register_entry (role.Gate k) (λ c. where_ (moved c) (c.regs (Gate (k - 1))))) (range_with_len 1 count)

-- the entries of all nodes, and of ready and done
abbrev pub states_of : Plan → List Entry
states_of p = flat_map (state_entries p) (numbered p)

abbrev pub waiting_of : Plan → List Entry
waiting_of p = always_entry role.Done (λ c. bit (next_done p c)) ∷ always_entry role.Ready (λ c. bit (next_ready p c)) ∷ []
