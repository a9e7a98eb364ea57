-- Registers hold the results that are read, from the first cycle of a node on, and so operations read what the clocked run reads.
pub mod Holding
use Rattle.std.specs.Prelude.{◌≡◌, ℕ, ◌+◌, ◌%◌, ◌<◌, true, false, List, slice_get, Some}
use Rattle.ir_core.specs.declared.cfg.End.{End}
use Rattle.ir_core.specs.Bodies.{Words}
use Rattle.clock_ir.specs.Flows.{TimedBody, Flow, first_flow, tick}
use Rattle.clock_ir.specs.ClockRuns.{TimedNode, block, overlapped}
use Rattle.datapath.specs.Plans.{Plan, body_at, span}
use Rattle.datapath.specs.Cycles.{Contents, Cycle, in_cycle}
use Rattle.datapath.specs.Control.{is_loop}
use Rattle.datapath.specs.Circuits.{Step}
use Rattle.datapath.specs.Standing.{IsInside, IsLoading}
use Rattle.circuit_agreement.specs.CircuitFlow.Compiled.{IsCompiled}
use Rattle.circuit_agreement.specs.CircuitFlow.Flows.{Sees, Arrives, CountsIntervals, HoldsVariables}
use Rattle.circuit_agreement.specs.CircuitFlow.HeldResults.Holding.{HoldsResults}

-- ---- the first cycle

-- As a block begins registers need hold no result.
abbrev pub NothingIsHeldFirst : Type 0
NothingIsHeldFirst = (p : Plan) (c : IsCompiled p) (i : ℕ) (body : TimedBody) (end_ : End) (t : Words) (x : Contents) → slice_get p.program.nodes i ≡ Some (block body end_)
    → HoldsResults p c i (first_flow body t) x

-- Behind the cycle in which a loop takes its first values, registers hold those that live variables have at entry.
abbrev pub EntriesAreHeld : Type 0
EntriesAreHeld = (p : Plan) (c : IsCompiled p) (i : ℕ) (body : TimedBody) (exit next : ℕ) (t : Words) (x y : Contents) (pins : List ℕ)
    → slice_get p.program.nodes i ≡ Some (overlapped body exit next) → IsLoading i x → HoldsVariables p i t.variables x → Step p x pins y
    → HoldsResults p c i (first_flow body t) y

-- ---- from cycle to cycle

-- While a node goes on registers take the results that arrive, and each is held as long as it is read.
abbrev pub ResultsStayHeld : Type 0
ResultsStayHeld = (p : Plan) (c : IsCompiled p) (i : ℕ) (n : TimedNode) (f : Flow) (x y : Contents) (pins : List ℕ) → slice_get p.program.nodes i ≡ Some n
    → IsInside i (f.time % span p i) x → HoldsResults p c i f x → (step : Step p x pins y) → Arrives p i f (in_cycle x step.signals pins)
    → (is_loop (Some n) ≡ true → CountsIntervals p i f (in_cycle x step.signals pins)) → (is_loop (Some n) ≡ false → f.time + 1 < (body_at p i).interval)
    → HoldsResults p c i (tick p.program.shapes (body_at p i) f) y

-- ---- reading

-- Where registers hold the results, and the variables that are read what they held at entry, what is read is what the clocked run reads.
abbrev pub HeldResultsAreSeen : Type 0
HeldResultsAreSeen = (p : Plan) (c : IsCompiled p) (i : ℕ) (n : TimedNode) (f : Flow) (x : Contents) (cycle : Cycle) → slice_get p.program.nodes i ≡ Some n
    → HoldsResults p c i f x → HoldsVariables p i f.entry x → cycle.regs ≡ x.regs → Sees p i f cycle
