-- Which registers a circuit has.
use Rattle.std.specs.Prelude.{◌≡◌, ◌<◌, ◌≤◌, ◌++◌, ℕ, ◌+◌, nat_lt, true, List, length, map, slice_get, Some}
use Rattle.clock_ir.specs.ClockRuns.{TimedNode}
use Rattle.datapath.specs.Plans.{Plan, initial_cycles, host_arrays}
use Rattle.datapath.specs.Cycles.{Register, Ready, Done, Initial, Time, Active, Load, Gate, Passed, Waited, Variable, Value, Result, Word, Named, Left, Right, Product, Steps, Dividend, Remainder, Divisor, QuotientSign, RemainderSign}
use Rattle.datapath.specs.Control.{is_loop, time_bits, wait_bits}
use Rattle.datapath.specs.Ports.{port_count}
use Rattle.circuit_context.specs.Wanted.Roles.{named}
use Rattle.circuit_context.specs.Wanted.Entries.{Entry, all_roles, all_entries}
use Rattle.circuit_context.specs.Wanted.Logs.{IsThere}

-- a circuit with so many gates and stages has this register, which is not of a unit
abbrev pub HasRegister : Plan → ℕ → ℕ → Register → Type 0
HasRegister p gates stages Ready = Unit {0}
HasRegister p gates stages Done = Unit {0}
HasRegister p gates stages Initial = nat_lt 0 (initial_cycles p) ≡ true
HasRegister p gates stages Time = nat_lt 0 (time_bits p) ≡ true
HasRegister p gates stages (Active i) = (x : TimedNode) × (slice_get p.program.nodes i ≡ Some x)
HasRegister p gates stages (Load i) = (x : TimedNode) × ((slice_get p.program.nodes i ≡ Some x) × (is_loop (Some x) ≡ true))
HasRegister p gates stages (Gate k) = k < gates
HasRegister p gates stages (Passed n) = (1 ≤ n) × (n < 1 + stages)
HasRegister p gates stages Waited = nat_lt 0 (wait_bits p) ≡ true
HasRegister p gates stages (Variable v) = v < length p.program.shapes.widths
HasRegister p gates stages (Value k) = k < length p.widths
HasRegister p gates stages Result = nat_lt 0 p.result ≡ true
HasRegister p gates stages (Word a n) = (a < length p.arrays) × (n < port_count p a)
HasRegister p gates stages Named = nat_lt 1 (length (host_arrays p)) ≡ true
HasRegister p gates stages r = ⊥

abbrev pub IsOfUnit : Register → Type 0
IsOfUnit (Left bits n) = Unit {0}
IsOfUnit (Right bits n) = Unit {0}
IsOfUnit (Product bits n) = Unit {0}
IsOfUnit (Steps bits n) = Unit {0}
IsOfUnit (Dividend bits n) = Unit {0}
IsOfUnit (Remainder bits n) = Unit {0}
IsOfUnit (Divisor bits n) = Unit {0}
IsOfUnit (QuotientSign bits n) = Unit {0}
IsOfUnit (RemainderSign bits n) = Unit {0}
IsOfUnit r = ⊥

-- it takes values of operations, or of the host
abbrev pub IsOfValue : Register → Type 0
IsOfValue (Variable v) = Unit {0}
IsOfValue (Value k) = Unit {0}
IsOfValue Result = Unit {0}
IsOfValue r = ⊥

-- the registers of a circuit, with these of units
abbrev pub names_with : Plan → ℕ → ℕ → List Register → List Register
names_with p gates stages units = map named (all_roles p gates stages) ++ units

-- what is logged for registers is for registers that the circuit has
pub record AreAllThere (p : Plan) (gates stages : ℕ) (units : List Register) : Type 0 where
  pub there : (k : ℕ) (it : Entry) → slice_get (all_entries p gates stages) k ≡ Some it → IsThere (names_with p gates stages units) it.target
  pub of_units : (k : ℕ) (r : Register) → slice_get units k ≡ Some r → IsOfUnit r
