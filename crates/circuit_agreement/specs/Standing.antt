-- What a circuit holds where its clocked run stands.
use Rattle.std.specs.Prelude.{◌≡◌, ◌≢◌, ℕ, ◌%◌, ◌^◌, ◌<◌, true, List, slice_get, Option, Some, None}
use Rattle.ir_core.specs.declared.body.Operand.{Operand}
use Rattle.ir_core.specs.declared.cfg.End.TheVariants as end
use Rattle.ir_core.specs.Bodies.{Words}
use Rattle.clock_ir.specs.Flows.{TimedBody, Flow}
use Rattle.clock_ir.specs.ClockRuns.{TimedNode, block, overlapped, Phase, starting, loading, inside, ended}
use Rattle.datapath.specs.Plans.{Plan, Array, body_at, span}
use Rattle.datapath.specs.Cycles.{Variable, Result, Contents}
use Rattle.datapath.specs.Standing.{IsWaiting, IsLoading, IsInside, IsBusy, IsStill}
use Rattle.datapath.specs.Savings.{StaysForNextRun}
use Rattle.circuit_agreement.specs.CircuitFlow.Compiled.{IsCompiled}
use Rattle.circuit_agreement.specs.CircuitFlow.Flows.{HoldsVariables, HoldsMemories}
use Rattle.circuit_agreement.specs.CircuitFlow.HeldResults.Holding.{HoldsResults}
use Rattle.circuit_agreement.specs.UnitResults.UnderWay.{HasUnderWay}
use Rattle.circuit_agreement.specs.CircuitFlow.LoopGates.Gates.{HoldsGates, RunsOnce}
use Rattle.circuit_agreement.specs.CircuitFlow.NodeEnds.Ends.{HoldsComparisons}

-- A function that returns a word has a result, and the constants of a table have no more bits than its elements.
pub record FitsFrame (p : Plan) : Type 0 where
  pub returns : (i : ℕ) (body : TimedBody) (x : Operand) → slice_get p.program.nodes i ≡ Some (block body (end.Return (Some x))) → p.result ≢ 0
  pub constants : (a n word : ℕ) (array : Array) (words : List ℕ) → slice_get p.arrays a ≡ Some array → array.table ≡ Some words → slice_get words n ≡ Some word → word < 2 ^ array.bits

-- what is known besides of a block, and of a loop
abbrev pub FollowsAs : Plan → ℕ → Flow → Contents → Option TimedNode → Type 0
FollowsAs p i f x (Some (block body end_)) = RunsOnce (body_at p i) f × HoldsComparisons p i f
FollowsAs p i f x (Some (overlapped body exit next)) = HoldsGates p i exit f x
FollowsAs p i f x None = ⊥

-- In a cycle of a node all that is read later is held: variables, memories, results in registers, and what units have under way.
pub record StandsInside (p : Plan) (c : IsCompiled p) (i : ℕ) (f : Flow) (x : Contents) : Type 0 where
  pub inside_ : IsInside i (f.time % span p i) x
  pub variables : HoldsVariables p i f.entry x
  pub memories : HoldsMemories p f.memories x
  pub results : HoldsResults p c i f x
  pub units : HasUnderWay p i f x
  pub follows : FollowsAs p i f x (slice_get p.program.nodes i)

-- The first values of a loop are taken. In a node that is not there the circuit stays for ever, as the clocked run does.
abbrev pub StandsLoadingAs : Plan → ℕ → Words → Contents → Option TimedNode → Type 0
StandsLoadingAs p i t x (Some (overlapped body exit next)) = IsLoading i x × HoldsVariables p i t.variables x × HoldsMemories p t.memories x
StandsLoadingAs p i t x (Some (block body end_)) = ⊥
StandsLoadingAs p i t x None = IsBusy x × IsStill x

-- the result of the last run is there, if the function has one
abbrev pub HasResult : Plan → Option ℕ → Contents → Type 0
HasResult p word x = (w : ℕ) → word ≡ Some w → (x.regs Result ≡ w) × (p.result ≢ 0)

-- behind the last cycle of a run its result is there, with all that stays for the next run
pub record StandsAtEnd (p : Plan) (word : Option ℕ) (t : Words) (x : Contents) : Type 0 where
  pub waits : IsWaiting true x
  pub memories : HoldsMemories p t.memories x
  pub kept : (v : ℕ) → StaysForNextRun p v → x.regs (Variable v) ≡ t.variables v
  pub result : HasResult p word x

-- the circuit holds this where the clocked run is under way, or has ended
abbrev pub StandsIn : (p : Plan) → IsCompiled p → Phase → Contents → Type 0
StandsIn p c (starting t) x = ⊥
StandsIn p c (loading i t) x = StandsLoadingAs p i t x (slice_get p.program.nodes i)
StandsIn p c (inside i f) x = StandsInside p c i f x
StandsIn p c (ended word t) x = StandsAtEnd p word t x
