-- What a circuit holds where its box stands.
use Rattle.std.specs.Prelude.{◌≡◌, ℕ, ◌+◌, ◌≤◌, true, false, List, map, filter, Option, None, is_none}
use Rattle.hls_base.specs.FileScope.{FileScope}
use Rattle.rtl_core.specs.Netlist.{Netlist, Memory}
use Rattle.rtl_core.specs.Interface.{read_data_of}
use Rattle.rtl_core.specs.Box.{Phase, Init, Idle, Busy, Done, Forever, Broken, Box}
use Rattle.rtl_core.specs.Agreement.{ShowsValue}
use Rattle.ir_core.specs.Bodies.{Words}
use Rattle.clock_ir.specs.ClockRuns.{clock_run}
use Rattle.datapath.specs.Plans.{Plan, Array, initial_cycles}
use Rattle.datapath.specs.Cycles.{Contents}
use Rattle.datapath.specs.Circuits.{Shows}
use Rattle.datapath.specs.Standing.{IsWaiting, IsInSequence}
use Rattle.datapath.specs.Answers.{HoldsArrays, first_file_scope}
use Rattle.circuit_agreement.specs.CircuitFlow.Compiled.{IsCompiled}
use Rattle.circuit_agreement.specs.CircuitStores.HeldWords.{words_in}
use Rattle.circuit_agreement.specs.CircuitStores.{IsFilled}
use Rattle.circuit_agreement.specs.Answers.{EndsAfter, RunsOn}
use Rattle.circuit_agreement.specs.Standing.{HasResult, StandsIn}

-- the memories of the netlist are those of the arrays that are no tables, in their order, with words of their bits
abbrev pub HasMemories : Plan → Netlist → Type 0
HasMemories p d = map (λ (m : Memory). m.bits) d.mems ≡ map (λ (a : Array). a.bits) (filter (λ (a : Array). is_none a.table) p.arrays)

-- ---- phases

-- so many cycles of the initial sequence are left
pub record IsFilling (p : Plan) (cycles : ℕ) (b : Box) (x : Contents) : Type 0 where
  pub time : ℕ
  pub left_ : time + cycles ≡ initial_cycles p
  pub some : 1 ≤ cycles
  pub sequence : IsInSequence time x
  pub filled : IsFilled p b.arrays time x
  pub scope : b.file_scope ≡ first_file_scope p
  pub shown : b.shown ≡ None

-- Nothing runs: the circuit holds what the box holds, and shows the element that it shows.
pub record IsServing (p : Plan) (b : Box) (x : Contents) : Type 0 where
  pub holds : HoldsArrays p b.file_scope b.arrays (words_in p x)
  pub element : (outs : List ℕ) → Shows p x outs → ShowsValue b.shown (read_data_of outs)

-- a run is under way that ends after so many cycles
pub record IsRunning (p : Plan) (c : IsCompiled p) (cycles : ℕ) (result : Option ℕ) (arrays : List (List ℕ)) (file_scope : FileScope) (x : Contents) : Type 0 where
  pub words : Words
  pub edges : ℕ
  pub some : 1 ≤ cycles
  pub stands : StandsIn p c (clock_run p.program words edges) x
  pub ends_ : EndsAfter p words (edges + cycles) result arrays file_scope

-- a run is under way that never ends
pub record IsRunningOn (p : Plan) (c : IsCompiled p) (x : Contents) : Type 0 where
  pub words : Words
  pub edges : ℕ
  pub stands : StandsIn p c (clock_run p.program words edges) x
  pub runs : RunsOn p words

abbrev pub BoxStandsAs : (p : Plan) → IsCompiled p → Phase → Box → Contents → Type 0
BoxStandsAs p c (Init cycles) b x = IsFilling p cycles b x
BoxStandsAs p c Idle b x = IsWaiting false x × IsServing p b x
BoxStandsAs p c (Busy cycles result arrays file_scope) b x = IsRunning p c cycles result arrays file_scope x × (b.shown ≡ None)
BoxStandsAs p c (Done result) b x = IsWaiting true x × (IsServing p b x × HasResult p result x)
BoxStandsAs p c Forever b x = IsRunningOn p c x × (b.shown ≡ None)
BoxStandsAs p c Broken b x = Unit {0}

abbrev pub BoxStands : (p : Plan) → IsCompiled p → Box → Contents → Type 0
BoxStands p c b x = BoxStandsAs p c b.phase b x
