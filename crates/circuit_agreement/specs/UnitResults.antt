-- Cycle by cycle the units of a circuit are on with what the clocked run has under way.
pub mod Divisions
pub mod UnderWay
use Rattle.std.specs.Prelude.{◌≡◌, ℕ, suc, ◌%◌, ◌^◌, ◌<◌, List, slice_get, Some}
use Rattle.ir_core.specs.Bodies.{Words}
use Rattle.clock_ir.specs.Flows.{Flow, first_flow, tick}
use Rattle.clock_ir.specs.ClockRuns.{TimedNode}
use Rattle.datapath.specs.Plans.{Plan, body_at, span}
use Rattle.datapath.specs.Cycles.{Register, Contents, Cycle, in_cycle}
use Rattle.datapath.specs.Circuits.{width, Step}
use Rattle.datapath.specs.Standing.{IsInside}
use Rattle.circuit_agreement.specs.CircuitFlow.Compiled.{IsCompiled}
use Rattle.circuit_agreement.specs.CircuitFlow.Flows.{Sees, Arrives, HoldsMemories}
use Rattle.circuit_agreement.specs.UnitResults.UnderWay.{IsWithin, HasUnderWay}

-- each register has a number of its width
abbrev pub HasWidths : Plan → Contents → Type 0
HasWidths p x = (r : Register) → x.regs r < 2 ^ width p r

-- As the time of a node begins nothing is under way, whatever the registers hold.
abbrev pub UnitsBegin : Type 0
UnitsBegin = (p : Plan) (i : ℕ) (n : TimedNode) (t : Words) (x : Contents) → IsCompiled p → slice_get p.program.nodes i ≡ Some n
    → HasUnderWay p i (first_flow (body_at p i) t) x

-- While the node goes on the units do.
abbrev pub UnitsStep : Type 0
UnitsStep = (p : Plan) (i : ℕ) (n : TimedNode) (f : Flow) (x y : Contents) (pins : List ℕ) → IsCompiled p → slice_get p.program.nodes i ≡ Some n
    → IsInside i (f.time % span p i) x → HasWidths p x → HoldsMemories p f.memories x → (step : Step p x pins y) → Sees p i f (in_cycle x step.signals pins)
    → HasUnderWay p i f x → IsWithin p i (suc f.time) → HasUnderWay p i (tick p.program.shapes (body_at p i) f) y

-- Each result arrives from its unit.
abbrev pub UnitsGive : Type 0
UnitsGive = (p : Plan) (i : ℕ) (n : TimedNode) (f : Flow) (c : Cycle) (x : Contents) → IsCompiled p → slice_get p.program.nodes i ≡ Some n
    → c.regs ≡ x.regs → HasUnderWay p i f x → Sees p i f c → Arrives p i f c
