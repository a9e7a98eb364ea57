-- How the registers that all loops share follow the clocked run.
pub mod Iterations
pub mod Gates
use Rattle.std.specs.Prelude.{◌≡◌, ℕ, ◌+◌, ◌%◌, ◌<◌, true, false, List, slice_get, Some}
use Rattle.ir_core.specs.declared.cfg.End.{End}
use Rattle.rtl_core.specs.Interface.{reset_of}
use Rattle.ir_core.specs.Bodies.{Words}
use Rattle.clock_ir.specs.Flows.{TimedBody, Flow, is_at, first_flow, tick}
use Rattle.clock_ir.specs.ClockRuns.{block, overlapped, loading, inside, loop_left, clock_step}
use Rattle.datapath.specs.Plans.{Plan, body_at, span}
use Rattle.datapath.specs.Cycles.{Signal, Contents, in_cycle}
use Rattle.datapath.specs.Reading.{at_iteration}
use Rattle.datapath.specs.Circuits.{Step}
use Rattle.datapath.specs.Standing.{IsLoading, IsInside, IsEntered}
use Rattle.circuit_agreement.specs.CircuitFlow.Compiled.{IsCompiled}
use Rattle.circuit_agreement.specs.CircuitFlow.Flows.{Sees, CountsIntervals, StoresAsRun, LeavesAsRun}
use Rattle.circuit_agreement.specs.CircuitFlow.LoopGates.Gates.{HoldsGates, is_left, RunsOnce}

-- ---- loops

-- As the time of a loop begins its gates are open, no interval has passed, and nothing was waited for.
abbrev pub GatesBegin : Type 0
GatesBegin = (p : Plan) (i : ℕ) (body : TimedBody) (exit next : ℕ) (t : Words) (x y : Contents) (pins : List ℕ) → IsCompiled p
    → slice_get p.program.nodes i ≡ Some (overlapped body exit next) → IsLoading i x → Step p x pins y → HoldsGates p i exit (first_flow (body_at p i) t) y

-- From then on gates, intervals and waiting are as in the clocked run, until the loop is left.
abbrev pub GatesStep : Type 0
GatesStep = (p : Plan) (i : ℕ) (body : TimedBody) (exit next : ℕ) (f : Flow) (x y : Contents) (pins : List ℕ) → IsCompiled p
    → slice_get p.program.nodes i ≡ Some (overlapped body exit next) → IsInside i (f.time % span p i) x → HoldsGates p i exit f x
    → (step : Step p x pins y) → Sees p i f (in_cycle x step.signals pins) → is_left (body_at p i) exit f ≡ false
    → HoldsGates p i exit (tick p.program.shapes (body_at p i) f) y

-- so the intervals of the loop are counted
abbrev pub LoopsCount : Type 0
LoopsCount = (p : Plan) (i exit : ℕ) (f : Flow) (x : Contents) (signals : Signal → ℕ) (pins : List ℕ) → HoldsGates p i exit f x → CountsIntervals p i f (in_cycle x signals pins)

-- the loop is left where the clocked run leaves it
abbrev pub LoopsLeave : Type 0
LoopsLeave = (p : Plan) (i : ℕ) (body : TimedBody) (exit next : ℕ) (f : Flow) (x : Contents) (signals : Signal → ℕ) (pins : List ℕ) → IsCompiled p
    → slice_get p.program.nodes i ≡ Some (overlapped body exit next) → IsInside i (f.time % span p i) x → HoldsGates p i exit f x
    → Sees p i f (in_cycle x signals pins) → LeavesAsRun p i exit f (in_cycle x signals pins)

-- and its stores are let through where they start there
abbrev pub LoopsStore : Type 0
LoopsStore = (p : Plan) (i : ℕ) (body : TimedBody) (exit next : ℕ) (f : Flow) (x : Contents) (signals : Signal → ℕ) (pins : List ℕ) → IsCompiled p
    → slice_get p.program.nodes i ≡ Some (overlapped body exit next) → IsInside i (f.time % span p i) x → HoldsGates p i exit f x
    → Sees p i f (in_cycle x signals pins) → StoresAsRun p i f (in_cycle x signals pins)

-- where its intervals are counted, an iteration is at a time in the circuit just as in the clocked run
abbrev pub IterationsAreAt : Type 0
IterationsAreAt = (p : Plan) (i t : ℕ) (body : TimedBody) (exit next : ℕ) (f : Flow) (x : Contents) (signals : Signal → ℕ) (pins : List ℕ) → IsCompiled p
    → slice_get p.program.nodes i ≡ Some (overlapped body exit next) → IsInside i (f.time % span p i) x → CountsIntervals p i f (in_cycle x signals pins)
    → at_iteration p (in_cycle x signals pins) i t ≡ is_at (body_at p i).interval t f.time

-- ---- blocks

-- a block begins with its one iteration, which runs
abbrev pub BlocksRun : Type 0
BlocksRun = (p : Plan) (i : ℕ) (body : TimedBody) (end_ : End) (t : Words) → IsCompiled p
    → slice_get p.program.nodes i ≡ Some (block body end_) → RunsOnce (body_at p i) (first_flow (body_at p i) t)

-- and runs on
abbrev pub BlocksRunOn : Type 0
BlocksRunOn = (p : Plan) (i : ℕ) (body : TimedBody) (end_ : End) (f : Flow) → IsCompiled p
    → slice_get p.program.nodes i ≡ Some (block body end_) → f.time + 1 < (body_at p i).interval → RunsOnce (body_at p i) f
    → RunsOnce (body_at p i) (tick p.program.shapes (body_at p i) f)

-- so its stores are let through where they start
abbrev pub BlocksStore : Type 0
BlocksStore = (p : Plan) (i : ℕ) (body : TimedBody) (end_ : End) (f : Flow) (x : Contents) (signals : Signal → ℕ) (pins : List ℕ) → IsCompiled p
    → slice_get p.program.nodes i ≡ Some (block body end_) → IsInside i (f.time % span p i) x → RunsOnce (body_at p i) f
    → StoresAsRun p i f (in_cycle x signals pins)

-- ---- the controller

-- behind the cycle in which the first values of a loop are taken, its time begins
abbrev pub LoopsBegin : Type 0
LoopsBegin = (p : Plan) (i : ℕ) (body : TimedBody) (exit next : ℕ) (t : Words) (x y : Contents) (pins : List ℕ)
    → slice_get p.program.nodes i ≡ Some (overlapped body exit next) → reset_of pins ≡ 0 → IsLoading i x → Step p x pins y
    → (clock_step p.program (loading i t) ≡ inside i (first_flow (body_at p i) t)) × IsInside i ((first_flow (body_at p i) t).time % span p i) y

-- a loop that is not left goes on
abbrev pub LoopsGoOn : Type 0
LoopsGoOn = (p : Plan) (i : ℕ) (body : TimedBody) (exit next : ℕ) (f : Flow) (x y : Contents) (pins : List ℕ) → IsCompiled p
    → slice_get p.program.nodes i ≡ Some (overlapped body exit next) → reset_of pins ≡ 0 → IsInside i (f.time % span p i) x → (step : Step p x pins y)
    → LeavesAsRun p i exit f (in_cycle x step.signals pins) → is_left (body_at p i) exit f ≡ false
    → (clock_step p.program (inside i f) ≡ inside i (tick p.program.shapes (body_at p i) f)) × IsInside i ((tick p.program.shapes (body_at p i) f).time % span p i) y

-- one that is left leads to the next node
abbrev pub LoopsLead : Type 0
LoopsLead = (p : Plan) (i : ℕ) (body : TimedBody) (exit next : ℕ) (f : Flow) (x y : Contents) (pins : List ℕ)
    → slice_get p.program.nodes i ≡ Some (overlapped body exit next) → reset_of pins ≡ 0 → IsInside i (f.time % span p i) x → (step : Step p x pins y)
    → LeavesAsRun p i exit f (in_cycle x step.signals pins) → is_left (body_at p i) exit f ≡ true
    → (clock_step p.program (inside i f) ≡ loop_left p.program.shapes p.program.nodes (body_at p i) exit next f) × IsEntered p next y

-- a block goes on until its last cycle
abbrev pub BlocksGoOn : Type 0
BlocksGoOn = (p : Plan) (i : ℕ) (body : TimedBody) (end_ : End) (f : Flow) (x y : Contents) (pins : List ℕ) → IsCompiled p
    → slice_get p.program.nodes i ≡ Some (block body end_) → f.time + 1 < (body_at p i).interval → reset_of pins ≡ 0 → IsInside i (f.time % span p i) x → Step p x pins y
    → (clock_step p.program (inside i f) ≡ inside i (tick p.program.shapes (body_at p i) f)) × IsInside i ((tick p.program.shapes (body_at p i) f).time % span p i) y
