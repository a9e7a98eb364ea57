-- What the arrays of a circuit hold, from cycle to cycle.
pub mod HeldWords
use Rattle.std.specs.Prelude.{◌≡◌, ◌≢◌, ℕ, ◌+◌, ◌^◌, ◌<◌, Bool, List, [], length, get_or, slice_get, slice_index, Some}
use Rattle.hls_base.specs.ArrayAddress.{addresses}
use Rattle.hls_base.specs.FileScope.{FileScope}
use Rattle.hls_base.specs.declared.number.Kept.{Kept}
use Rattle.hls_base.specs.declared.number.VarId.{VarId}
use Rattle.rtl_core.specs.Netlist.{Netlist}
use Rattle.rtl_core.specs.ClockStep.{State, IsState}
use Rattle.rtl_core.specs.Interface.{HoldArrays, reset_of, start_of, arguments_of, read_data_of}
use Rattle.rtl_core.specs.Box.{Box, served}
use Rattle.rtl_core.specs.Agreement.{ShowsValue, held_arrays}
use Rattle.ir_core.specs.Bodies.{Words}
use Rattle.ir_core.specs.FirstContents.{given_at}
use Rattle.clock_ir.specs.Flows.{Flow, tick}
use Rattle.clock_ir.specs.ClockRuns.{TimedNode}
use Rattle.datapath.specs.Plans.{Plan, array_at, depth, body_at, host_arrays, interface, initial_cycles}
use Rattle.datapath.specs.Cycles.{Register, Variable, Contents, in_cycle}
use Rattle.datapath.specs.Circuits.{Step, Shows}
use Rattle.datapath.specs.Netlists.{Holds}
use Rattle.datapath.specs.Standing.{IsWaiting, IsInSequence, IsLoading, IsInside}
use Rattle.datapath.specs.Answers.{elements, HoldsArrays, first_file_scope}
use Rattle.circuit_agreement.specs.CircuitFlow.Flows.{Sees, StoresAsRun, HoldsMemories, StoresAreApart}
use Rattle.circuit_agreement.specs.CircuitFlow.Compiled.{IsCompiled}
use Rattle.circuit_agreement.specs.CircuitStores.HeldWords.{words_in}

-- ---- in a run

-- In a cycle of a block or of a loop the arrays go on to hold what the clocked run holds.
abbrev pub NodesStore : Type 0
NodesStore = (p : Plan) (i time : ℕ) (n : TimedNode) (f : Flow) (x y : Contents) (pins : List ℕ) → IsCompiled p → slice_get p.program.nodes i ≡ Some n → reset_of pins ≡ 0
    → IsInside i time x → (step : Step p x pins y) → HoldsMemories p f.memories x → Sees p i f (in_cycle x step.signals pins) → StoresAsRun p i f (in_cycle x step.signals pins)
    → StoresAreApart p i f → HoldsMemories p (tick p.program.shapes (body_at p i) f).memories y

-- the cycle in which the first values of a loop are taken changes no array
abbrev pub LoadingKeepsArrays : Type 0
LoadingKeepsArrays = (p : Plan) (i : ℕ) (memories : ℕ → ℕ → ℕ) (x y : Contents) (pins : List ℕ) → reset_of pins ≡ 0 → IsLoading i x → HoldsMemories p memories x → Step p x pins y
    → HoldsMemories p memories y

-- ---- before and behind a run

-- the arrays hold the words that they show
abbrev pub WordsAreHeld : Type 0
WordsAreHeld = (p : Plan) (x : Contents) → HoldsMemories p (words_in p x).memories x

-- Where the arrays hold the words of a run, and the scalars that stay have their values in it, the circuit shows the contents that the run leaves.
abbrev pub ContentsAreShown : Type 0
ContentsAreShown = (p : Plan) (file_scope : FileScope) (arrays : List (List ℕ)) (t : Words) (x : Contents) → IsCompiled p → HoldsMemories p t.memories x
    → ((k : ℕ) (s : Kept) → slice_get p.kept k ≡ Some s → x.regs (Variable s.variable.0) ≡ t.variables s.variable.0) → HoldsArrays p file_scope arrays t
    → HoldsArrays p file_scope arrays (words_in p x)

-- The parameters have the arguments, and all else that a run reads is as it was shown.
pub record TakesArguments (p : Plan) (file_scope : FileScope) (arguments_ : List ℕ) (arrays : List (List ℕ)) (t : Words) : Type 0 where
  pub arguments : (k : ℕ) (v : VarId) → slice_get p.parameters k ≡ Some v → t.variables v.0 ≡ slice_index arguments_ k
  pub holds : HoldsArrays p file_scope arrays t

-- so it is behind the cycle of a start
abbrev pub RunsBegin : Type 0
RunsBegin = (p : Plan) (done : Bool) (file_scope : FileScope) (arrays : List (List ℕ)) (x y : Contents) (pins : List ℕ) → IsCompiled p → reset_of pins ≡ 0 → start_of pins ≡ 1
    → IsWaiting done x → HoldsArrays p file_scope arrays (words_in p x) → Step p x pins y → TakesArguments p file_scope (arguments_of pins) arrays (words_in p y)

-- ---- while nothing runs

-- The circuit holds what the box holds that has served the host, and shows the host the element that it has read.
pub record Serves (p : Plan) (b : Box) (pins : List ℕ) (y : Contents) : Type 0 where
  pub holds : HoldsArrays p (served (interface p) b pins).file_scope (served (interface p) b pins).arrays (words_in p y)
  pub element : (outs : List ℕ) → Shows p y outs → ShowsValue (served (interface p) b pins).shown (read_data_of outs)

-- so it is behind a cycle in which the circuit waits and no start comes
abbrev pub HostsAreServed : Type 0
HostsAreServed = (p : Plan) (done : Bool) (b : Box) (x y : Contents) (pins : List ℕ) → IsCompiled p → reset_of pins ≡ 0 → start_of pins ≢ 1 → IsWaiting done x
    → HoldsArrays p b.file_scope b.arrays (words_in p x) → Step p x pins y → Serves p b pins y

-- ---- the first contents

-- the arrays that the host reaches hold these elements
abbrev pub HoldsHosts : Plan → List (List ℕ) → Contents → Type 0
HoldsHosts p arrays x = (a : ℕ) → a < length (host_arrays p) → elements (array_at p a) ((words_in p x).memories a) ≡ get_or arrays a []

-- a circuit shows the elements that its memories hold when its power comes up
abbrev pub FoundContents : Type 0
FoundContents = (p : Plan) (d : Netlist) (names : List Register) (s : State) (x : Contents) → IsCompiled p → HoldArrays d.mems (interface p).arrays → IsState d s → Holds p names s x
    → HoldsHosts p (held_arrays (interface p).arrays s.mems) x

-- At this time of the initial sequence all words of file scope at lower addresses are set, and the scalars that stay are from its first cycle on.
pub record IsFilled (p : Plan) (arrays : List (List ℕ)) (time : ℕ) (x : Contents) : Type 0 where
  pub hosts : HoldsHosts p arrays x
  pub files : (a address : ℕ) (first : List ℕ) → (array_at p a).first ≡ Some first → address < time → address < 2 ^ depth p a
      → x.memories a address ≡ given_at (addresses (array_at p a).dims) first address 0
  pub kept : 0 < time → (k : ℕ) (s : Kept) → slice_get p.kept k ≡ Some s → x.regs (Variable s.variable.0) ≡ s.value

-- a reset changes no array
abbrev pub FillingBegins : Type 0
FillingBegins = (p : Plan) (arrays : List (List ℕ)) (x y : Contents) (pins : List ℕ) → reset_of pins ≡ 1 → HoldsHosts p arrays x → Step p x pins y → IsFilled p arrays 0 y

abbrev pub FillingGoesOn : Type 0
FillingGoesOn = (p : Plan) (arrays : List (List ℕ)) (time : ℕ) (x y : Contents) (pins : List ℕ) → IsCompiled p → reset_of pins ≡ 0 → IsInSequence time x → IsFilled p arrays time x
    → Step p x pins y → IsFilled p arrays (time + 1) y

-- behind the last cycle, or at once where there is none, all at file scope stands as it begins
abbrev pub FillingEnds : Type 0
FillingEnds = (p : Plan) (arrays : List (List ℕ)) (x : Contents) → IsCompiled p → IsFilled p arrays (initial_cycles p) x → HoldsArrays p (first_file_scope p) arrays (words_in p x)
