-- The ports of an array while a circuit is made.
use Rattle.std.specs.Prelude.{◌≡◌, ◌≢◌, ◌<◌, ◌+◌, ◌^◌, ◌++◌, ℕ, Bool, false, List, [], ◌∷◌, length, map, get_or, slice_get, Option, Some, None}
use Rattle.std.specs.List.{All, list_any}
use Rattle.hls_base.specs.ArrayAddress.{addresses}
use Rattle.ir_core.specs.AddressWords.{AreShort}
use Rattle.ir_core.specs.FirstContents.{given_at}
use Rattle.rtl_core.specs.declared.design.Atom.{Atom}
use Rattle.rtl_core.specs.declared.design.Port.{Port}
use Rattle.rtl_core.specs.Netlist.{Netlist, Memory}
use Rattle.rtl_core.specs.ClockStep.{State, widths, seen}
use Rattle.rtl_core.specs.Valid.{HasBits, IsBetween}
use Rattle.rtl_core.proofs.Stability.{Extends}
use Rattle.rtl_logic.specs.declared.select.Choice.{Choice}
use Rattle.rtl_logic.specs.Making.{Appends}
use Rattle.rtl_logic.specs.Choosing.{Write, is_any_wanted, ChoiceFits, writes_in}
use Rattle.datapath.specs.Plans.{Plan, array_at, depth}
use Rattle.datapath.specs.Cycles.{Register, Word, Contents, Signal, AddressOf, StoredOf, Cycle, in_cycle}
use Rattle.datapath.specs.Circuits.{signal_writes, signal_else}
use Rattle.datapath.specs.Netlists.{memory_of}
use Rattle.datapath.specs.Ports.{port_count, loads, is_enabled, is_refused, is_reading, word_of, outside_address, outside_word, outside_writes}
use Rattle.datapath.specs.CircuitWires.Carrying.{IsMoment, IsBegun, Tells, CarriesWanted}
use Rattle.circuit_context.specs.declared.wanted.log.Groups.{Groups}
use Rattle.circuit_context.specs.declared.wanted.log.Push.{Push}
use Rattle.circuit_context.specs.declared.wanted.role.Target.{Target}
use Rattle.circuit_context.specs.Wanted.Roles.{given, choices_of}
use Rattle.circuit_context.specs.Wanted.Entries.{all_demands}
use Rattle.circuit_context.specs.Wanted.Logs.{ArePushes}
use Rattle.circuit_context.specs.Wanted.Driving.{Seen, AreDistinct, IsDriven, IsMemory, ShowsSignal}
use Rattle.circuit_context.specs.declared.context.Context.{Context}
use Rattle.circuit_context.specs.Contexts.{IsContext}
use Rattle.circuit_units.specs.declared.memories.memories.PortWires.{PortWires}
use Rattle.circuit_units.specs.declared.memories.places.Place.{Place}
use Rattle.circuit_units.specs.declared.memories.places.Outside.{Outside}
use Rattle.circuit_units.specs.declared.memories.words.Reading.{Reading}
use Rattle.circuit_units.specs.Memories.{array_signals}

-- ---- what is known

-- the circuit's registers are the plan's, and the groups hold what is wanted
pub record IsReady (p : Plan) (names : List Register) (of : Context) (groups : Groups) (d : Netlist) : Type 0 where
  pub context : IsContext p names of
  pub begun : IsBegun p names d
  pub distinct : AreDistinct names
  pub pushes : List Push
  pub are : ArePushes p names d pushes (all_demands p)
  pub held : (t : Target) → given groups t ≡ choices_of t pushes

-- the sizes of the array are those that are noted, and are such as a memory can have
pub record IsPlace (p : Plan) (place : Place) : Type 0 where
  pub there : place.array.0 < length p.arrays
  pub bits : place.bits ≡ (array_at p place.array.0).bits
  pub depth_ : place.depth ≡ depth p place.array.0
  pub wide : IsBetween 1 64 place.bits
  pub deep : IsBetween 1 16 place.depth
  pub short : AreShort (array_at p place.array.0).dims

-- ---- choices

-- in each cycle the choices want what these writes want, in order
pub record AreChoices (p : Plan) (names : List Register) (d : Netlist) (bits : ℕ) (choices : List Choice) (writes : Cycle → List Write) : Type 0 where
  pub fit : All (ChoiceFits (widths d) bits) choices
  pub are : (e : Netlist) (s : State) (pins : List ℕ) (x : Contents) (signals : Signal → ℕ) → IsMoment p names d e s pins x → writes_in (seen e s pins) choices ≡ writes (in_cycle x signals pins)

-- one of the choices is wanted where a load at the port is not to be
pub record AreRefused (p : Plan) (names : List Register) (d : Netlist) (a n : ℕ) (choices : List Choice) : Type 0 where
  pub fit : All (ChoiceFits (widths d) 1) choices
  pub any : (e : Netlist) (s : State) (pins : List ℕ) (x : Contents) (signals : Signal → ℕ) → IsMoment p names d e s pins x
      → is_any_wanted (writes_in (seen e s pins) choices) ≡ list_any (is_refused p (in_cycle x signals pins)) (loads p a n)

-- the value where none is wanted: this atom's, or none
pub record IsOtherAtom (p : Plan) (names : List Register) (d : Netlist) (bits : ℕ) (a : Atom) (value : Cycle → Option ℕ) : Type 0 where
  pub fits : HasBits (widths d) bits a
  pub value_ : (e : Netlist) (s : State) (pins : List ℕ) (x : Contents) (signals : Signal → ℕ) → IsMoment p names d e s pins x → value (in_cycle x signals pins) ≡ Some (seen e s pins a)

abbrev pub IsOtherValue : Plan → List Register → Netlist → ℕ → Option Atom → (Cycle → Option ℕ) → Type 0
IsOtherValue p names d bits None value = (c : Cycle) → value c ≡ None
IsOtherValue p names d bits (Some a) value = IsOtherAtom p names d bits a value

-- a bit that tells whether this holds, or none where it never does
abbrev pub TellsIfAny : Plan → List Register → Netlist → Option Atom → (Cycle → Bool) → Type 0
TellsIfAny p names d None holds_ = (c : Cycle) → holds_ c ≡ false
TellsIfAny p names d (Some a) holds_ = Tells p names d a holds_

-- an atom with the value that is wanted is made by appending wires
pub record MakesWanted (p : Plan) (names : List Register) (d e : Netlist) (bits : ℕ) (a : Atom) (writes : Cycle → List Write) (other : Cycle → Option ℕ) : Type 0 where
  pub appends : Appends d e
  pub begun : IsBegun p names e
  pub carries : CarriesWanted p names e bits a writes other

-- ---- ports

-- the access from outside of a run at a port, or none where there is none
pub record IsOutside (p : Plan) (names : List Register) (d : Netlist) (a n : ℕ) (o : Outside) : Type 0 where
  pub addr : IsOtherAtom p names d (depth p a) o.addr (λ c. outside_address p c a n)
  pub value : IsOtherAtom p names d (array_at p a).bits o.value (λ c. outside_word p c a n)
  pub enable : Tells p names d o.enable (λ c. outside_writes p c a n)

-- no access from outside is at the port
pub record IsInside (p : Plan) (a n : ℕ) : Type 0 where
  pub addr : (c : Cycle) → outside_address p c a n ≡ None
  pub value : (c : Cycle) → outside_word p c a n ≡ None
  pub enable : (c : Cycle) → outside_writes p c a n ≡ false

abbrev pub IsAccess : Plan → List Register → Netlist → ℕ → ℕ → Option Outside → Type 0
IsAccess p names d a n None = IsInside p a n
IsAccess p names d a n (Some o) = IsOutside p names d a n o

-- an access from outside is made by appending wires
pub record MakesOutside (p : Plan) (names : List Register) (d e : Netlist) (a : ℕ) (o : Outside) : Type 0 where
  pub appends : Appends d e
  pub begun : IsBegun p names e
  pub is : IsOutside p names e a 0 o

pub record MakesAccess (p : Plan) (names : List Register) (d e : Netlist) (a : ℕ) (o : Option Outside) : Type 0 where
  pub appends : Appends d e
  pub begun : IsBegun p names e
  pub is : IsAccess p names e a 0 o

-- the signal of the plan is seen at this atom of so many bits
abbrev pub ShowsAs : Plan → List Register → Netlist → ℕ → Signal → Atom → Type 0
ShowsAs p names d bits signal a = CarriesWanted p names d bits a (λ c. signal_writes p c signal) (λ c. signal_else p c signal)

-- what a port of a memory reads
pub record IsPortMade (p : Plan) (names : List Register) (d : Netlist) (a n : ℕ) (port : Port) : Type 0 where
  pub addr : ShowsAs p names d (depth p a) (AddressOf a n) port.addr
  pub value : ShowsAs p names d (array_at p a).bits (StoredOf a n) port.value
  pub enable : Tells p names d port.enable (λ c. is_enabled p c a n)

pub record MakesPort (p : Plan) (names : List Register) (d e : Netlist) (a n : ℕ) (port : Port) : Type 0 where
  pub appends : Appends d e
  pub begun : IsBegun p names e
  pub is : IsPortMade p names e a n port

abbrev pub wires_at : Port → PortWires
wires_at port = record { address = port.addr; stored = port.value }

-- so it is of the first ports of an array
pub record MakesPorts (p : Plan) (names : List Register) (d e : Netlist) (a : ℕ) (ports : List Port) : Type 0 where
  pub appends : Appends d e
  pub begun : IsBegun p names e
  pub are : (n : ℕ) (port : Port) → slice_get ports n ≡ Some port → IsPortMade p names e a n port

-- ---- words

-- the word of an array at this address
pub record ReadsWord (p : Plan) (names : List Register) (d : Netlist) (a : ℕ) (address word : Atom) : Type 0 where
  pub fits : HasBits (widths d) (array_at p a).bits word
  pub value_ : (e : Netlist) (s : State) (pins : List ℕ) (x : Contents) (signals : Signal → ℕ) → IsMoment p names d e s pins x
      → seen e s pins word ≡ word_of (in_cycle x signals pins) a (array_at p a) (seen e s pins address)

-- the words of an array at these addresses
abbrev pub ReadWords : Plan → List Register → Netlist → ℕ → List Atom → List Atom → Type 0
ReadWords p names d a addresses words = (n : ℕ) (word : Atom) → slice_get words n ≡ Some word → (address : Atom) × (slice_get addresses n ≡ Some address) × ReadsWord p names d a address word

-- a word, and the bit that tells whether it is read
abbrev pub reading_at : Atom → Atom → Reading
reading_at when word = record { word = word; when = when }

-- the words of an array at these addresses, each with the bit that tells whether it is read at its port
pub record IsReading (p : Plan) (names : List Register) (d : Netlist) (a n : ℕ) (address : Atom) (read : Reading) : Type 0 where
  pub word : ReadsWord p names d a address read.word
  pub when : Tells p names d read.when (λ c. is_reading p c a n)

abbrev pub AreReadings : Plan → List Register → Netlist → ℕ → List Atom → List Reading → Type 0
AreReadings p names d a addresses reads = (n : ℕ) (read : Reading) → slice_get reads n ≡ Some read → (address : Atom) × (slice_get addresses n ≡ Some address) × IsReading p names d a n address read

-- the bit that tells whether the only port writes
abbrev pub enable_of_only : List Port → Option Atom
enable_of_only (port ∷ []) = Some port.enable
enable_of_only ports = None

-- this atom tells whether the only port of a memory writes; there is none where it has more than one
abbrev pub TellsOnly : Plan → List Register → Netlist → ℕ → Option Atom → Type 0
TellsOnly p names d a None = port_count p a ≢ 1
TellsOnly p names d a (Some enable) = (port_count p a ≡ 1) × ((array_at p a).table ≡ None) × Tells p names d enable (λ c. is_enabled p c a 0)

-- the word of each address, of these elements of an array
pub record AreWordsOf (p : Plan) (a : ℕ) (elements words : List ℕ) : Type 0 where
  pub count : length words ≡ 2 ^ depth p a
  pub fit : All (λ w. w < 2 ^ (array_at p a).bits) words
  pub are : (place : ℕ) → get_or words place 0 ≡ given_at (addresses (array_at p a).dims) elements place 0

-- Wires are appended, and the register of the word at this port is driven.
pub record SetsWord (p : Plan) (names : List Register) (d e : Netlist) (a n : ℕ) (address : Atom) : Type 0 where
  pub extends : Extends d e
  pub begun : IsBegun p names e
  pub others : (k : ℕ) (r : Register) → slice_get names k ≡ Some r → r ≢ Word a n → slice_get e.regs k ≡ slice_get d.regs k
  pub driven : (k : ℕ) → slice_get names k ≡ Some (Word a n) → IsDriven p names ((AddressOf a n, address) ∷ []) e k (Word a n)
  pub mems : e.mems ≡ d.mems
  pub outputs : e.outputs ≡ d.outputs

-- the same of the first ports of an array, where these are their addresses
pub record SetsWords (p : Plan) (names : List Register) (d e : Netlist) (a : ℕ) (addresses : List Atom) : Type 0 where
  pub extends : Extends d e
  pub begun : IsBegun p names e
  pub others : (k : ℕ) (r : Register) → slice_get names k ≡ Some r → ((n : ℕ) → n < length addresses → r ≢ Word a n) → slice_get e.regs k ≡ slice_get d.regs k
  pub driven : (k n : ℕ) (address : Atom) → slice_get addresses n ≡ Some address → slice_get names k ≡ Some (Word a n) → IsDriven p names ((AddressOf a n, address) ∷ []) e k (Word a n)
  pub mems : e.mems ≡ d.mems
  pub outputs : e.outputs ≡ d.outputs

-- ---- tables

-- the signals at a port
pub record AreShownAt (p : Plan) (names : List Register) (d : Netlist) (a n : ℕ) (wires : PortWires) : Type 0 where
  pub address : ShowsAs p names d (depth p a) (AddressOf a n) wires.address
  pub stored : ShowsAs p names d (array_at p a).bits (StoredOf a n) wires.stored

-- a port of a table is made, and its register is driven
pub record MakesTablePort (p : Plan) (names : List Register) (d e : Netlist) (a n : ℕ) (wires : PortWires) : Type 0 where
  pub sets : SetsWord p names d e a n wires.address
  pub shown : AreShownAt p names e a n wires

pub record MakesTablePorts (p : Plan) (names : List Register) (d e : Netlist) (a : ℕ) (wires : List PortWires) : Type 0 where
  pub sets : SetsWords p names d e a (map (λ (w : PortWires). w.address) wires)
  pub shown : (n : ℕ) (w : PortWires) → slice_get wires n ≡ Some w → AreShownAt p names e a n w

-- ---- arrays

-- an array is added, with its ports
pub record AddsArray (p : Plan) (names : List Register) (d e : Netlist) (a : ℕ) (wires : List PortWires) : Type 0 where
  pub extends : Extends d e
  pub begun : IsBegun p names e
  pub others : (k : ℕ) (r : Register) → slice_get names k ≡ Some r → ((n : ℕ) → r ≢ Word a n) → slice_get e.regs k ≡ slice_get d.regs k
  pub words : (k n : ℕ) → n < port_count p a → slice_get names k ≡ Some (Word a n) → IsDriven p names (array_signals (a, wires)) e k (Word a n)
  pub outputs : e.outputs ≡ d.outputs
  pub count : length wires ≡ port_count p a
  pub shown : (k : ℕ) (x : Seen) → slice_get (array_signals (a, wires)) k ≡ Some x → ShowsSignal p names e x
  pub more : List Memory
  pub mems : e.mems ≡ d.mems ++ more
  pub memory : (array_at p a).table ≡ None → (m : Memory) × IsMemory p names (array_signals (a, wires)) e a m
  pub only : length e.mems ≡ memory_of p (a + 1)
