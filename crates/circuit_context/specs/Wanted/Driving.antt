-- What the registers, units and memories of a circuit take with an edge.
use Rattle.std.specs.Prelude.{◌≡◌, ◌≢◌, ℕ, ◌+◌, ◌<◌, ◌^◌, ◌==◌, List, [], length, slice_get, Option, Some, None, if◌then◌else◌}
use Rattle.std.specs.List.{All}
use Rattle.rtl_core.specs.declared.design.Atom.{Atom}
use Rattle.rtl_core.specs.declared.design.Port.{Port}
use Rattle.rtl_core.specs.declared.design.Reg.{Reg}
use Rattle.rtl_core.specs.declared.design.OutPin.{OutPin}
use Rattle.rtl_core.specs.Netlist.{Netlist, Memory}
use Rattle.rtl_core.specs.ClockStep.{State, seen}
use Rattle.rtl_core.specs.Interface.{HasPins}
use Rattle.rtl_core.specs.Valid.{IsValid}
use Rattle.rtl_logic.specs.Choosing.{Takes}
use Rattle.datapath.specs.Plans.{Plan, Array, array_at, depth, interface, host_arrays}
use Rattle.datapath.specs.Cycles.{Ready, Done, Result, Named, Word, AddressOf, StoredOf, Register, Contents, Signal, Cycle, in_cycle}
use Rattle.datapath.specs.Circuits.{width, register_writes, signal_writes, signal_else}
use Rattle.datapath.specs.Netlists.{memory_of}
use Rattle.datapath.specs.Ports.{is_enabled, port_count}
use Rattle.datapath.specs.CircuitWires.Carrying.{IsMoment, IsBegun, Tells, Carries, CarriesWanted}

-- ---- signals

-- the atom at which a signal of the plan is seen
abbrev pub Seen : Type 0
Seen = Signal × Atom

-- the signals are what is seen at their atoms
abbrev pub Follow : List Seen → Netlist → State → List ℕ → (Signal → ℕ) → Type 0
Follow sigs e s pins signals = All (λ (x : Seen). signals x.0 ≡ seen e s pins x.1) sigs

-- at each atom is seen what the signal is given
pub record ShowsSignal (p : Plan) (names : List Register) (d : Netlist) (x : Seen) : Type 0 where
  pub bits : ℕ
  pub carries : CarriesWanted p names d bits x.1 (λ c. signal_writes p c x.0) (λ c. signal_else p c x.0)

-- ---- registers

-- what a register with this number has behind the edge
abbrev pub behind_edge : Netlist → State → List ℕ → Reg → ℕ → ℕ
behind_edge e s pins reg old = if seen e s pins reg.enable == 1 then seen e s pins reg.next else old

-- Register number k takes with each edge what the plan's register r is given, where the signals are what is seen at these atoms.
pub record IsDriven (p : Plan) (names : List Register) (sigs : List Seen) (d : Netlist) (k : ℕ) (r : Register) : Type 0 where
  pub reg : Reg
  pub stands : slice_get d.regs k ≡ Some reg
  pub takes : (e : Netlist) (s : State) (pins : List ℕ) (x : Contents) (signals : Signal → ℕ) → IsMoment p names d e s pins x → Follow sigs e s pins signals
      → Takes (register_writes p (in_cycle x signals pins) r) (Some (x.regs r)) (behind_edge e s pins reg (x.regs r))

-- from this number on these are the registers, each driven
abbrev pub AreDriven : Plan → List Register → List Seen → Netlist → ℕ → List Register → Type 0
AreDriven p names sigs d first more = (k : ℕ) (r : Register) → slice_get more k ≡ Some r → IsDriven p names sigs d (first + k) r

-- ---- ports

-- port number n of array a: its address and its value are seen at its atoms, and its bit tells whether it is written
pub record IsPort (p : Plan) (names : List Register) (sigs : List Seen) (d : Netlist) (a n : ℕ) (port : Port) : Type 0 where
  pub address : (k : ℕ) × (slice_get sigs k ≡ Some (AddressOf a n, port.addr))
  pub value : (k : ℕ) × (slice_get sigs k ≡ Some (StoredOf a n, port.value))
  pub enable : Tells p names d port.enable (λ c. is_enabled p c a n)

-- the memory of array a, with all its ports
pub record IsMemory (p : Plan) (names : List Register) (sigs : List Seen) (d : Netlist) (a : ℕ) (m : Memory) : Type 0 where
  pub stands : slice_get d.mems (memory_of p a) ≡ Some m
  pub bits : m.bits ≡ (array_at p a).bits
  pub depth_log : m.depth_log ≡ depth p a
  pub count : length m.ports ≡ port_count p a
  pub ports : (n : ℕ) (port : Port) → slice_get m.ports n ≡ Some port → IsPort p names sigs d a n port

-- ---- a circuit whose parts are all there

-- no two registers are the same
abbrev pub AreDistinct : List Register → Type 0
AreDistinct names = (j k : ℕ) (r : Register) → slice_get names j ≡ Some r → slice_get names k ≡ Some r → j ≡ k

-- no signal is seen at two atoms
abbrev pub AreSeenOnce : List Seen → Type 0
AreSeenOnce sigs = (j k : ℕ) (x y : Seen) → slice_get sigs j ≡ Some x → slice_get sigs k ≡ Some y → x.0 ≡ y.0 → j ≡ k

abbrev pub IsUnnamed : List Register → Register → Type 0
IsUnnamed names r = (k : ℕ) → slice_get names k ≢ Some r

abbrev pub IsUnseen : List Seen → Signal → Type 0
IsUnseen sigs signal = (k : ℕ) (a : Atom) → slice_get sigs k ≢ Some (signal, a)

-- the signal is not that of an array that there is not
abbrev pub IsInside : Plan → Signal → Type 0
IsInside p (AddressOf a n) = a < length p.arrays
IsInside p (StoredOf a n) = a < length p.arrays
IsInside p signal = Unit {0}

-- what is taken for a signal that is seen nowhere: behind the last address of a table, and else 0
abbrev pub unseen_address : Plan → ℕ → Option (List ℕ) → ℕ
unseen_address p a None = 0
unseen_address p a (Some table) = 2 ^ depth p a

abbrev pub unseen_value : Plan → Signal → ℕ
unseen_value p (AddressOf a n) = unseen_address p a (array_at p a).table
unseen_value p signal = 0

abbrev pub HaveElse : Plan → List Seen → (Signal → ℕ) → Type 0
HaveElse p sigs signals = (signal : Signal) → IsUnseen sigs signal → signals signal ≡ unseen_value p signal

-- there is something of its width that the register may take with this edge
pub record MayTake (p : Plan) (r : Register) (cycle : Cycle) : Type 0 where
  pub value : ℕ
  pub takes : Takes (register_writes p cycle r) (Some (cycle.regs r)) value
  pub fits : value < 2 ^ width p r

-- what the outputs show: whether nothing runs, whether a run has ended, the word that was read at the array named, and the result
pub record ShowsOutputs (p : Plan) (names : List Register) (d : Netlist) : Type 0 where
  pub ready : (o : OutPin) → slice_get d.outputs 0 ≡ Some o → Carries p names d 1 o.from (λ c. c.regs Ready)
  pub done : (o : OutPin) → slice_get d.outputs 1 ≡ Some o → Carries p names d 1 o.from (λ c. c.regs Done)
  pub element : (o : OutPin) → slice_get d.outputs 2 ≡ Some o → (e : Netlist) (s : State) (pins : List ℕ) (x : Contents) → IsMoment p names d e s pins x
      → x.regs Named < length (host_arrays p) → seen e s pins o.from ≡ x.regs (Word (x.regs Named) 0)
  pub result : (o : OutPin) → slice_get d.outputs 3 ≡ Some o → 0 < p.result → Carries p names d p.result o.from (λ c. c.regs Result)

-- Each register of the circuit takes what the plan's register is given, each signal is seen at one atom or given nothing, each array that is no table has its memory with its ports, and the outputs show what they are to.
pub record IsAssembled (p : Plan) (names : List Register) (sigs : List Seen) (d : Netlist) : Type 0 where
  pub valid : IsValid d
  pub pins : HasPins d (interface p)
  pub begun : IsBegun p names d
  pub distinct : AreDistinct names
  pub driven : AreDriven p names sigs d 0 names
  pub signals : (k : ℕ) (x : Seen) → slice_get sigs k ≡ Some x → ShowsSignal p names d x
  pub once : AreSeenOnce sigs
  pub unseen : (signal : Signal) → IsInside p signal → IsUnseen sigs signal → (cycle : Cycle) → (signal_writes p cycle signal ≡ []) × (signal_else p cycle signal ≡ None)
  pub memories : (a : ℕ) (array : Array) → slice_get p.arrays a ≡ Some array → array.table ≡ None → (m : Memory) × IsMemory p names sigs d a m
  pub only : length d.mems ≡ memory_of p (length p.arrays)
  pub outputs : ShowsOutputs p names d
  pub unnamed : (r : Register) → IsUnnamed names r → (s : State) (pins : List ℕ) (x : Contents) (signals : Signal → ℕ) → IsMoment p names d d s pins x → Follow sigs d s pins signals
      → HaveElse p sigs signals → MayTake p r (in_cycle x signals pins)
