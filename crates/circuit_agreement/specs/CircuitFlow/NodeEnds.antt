-- How variables and the result follow from cycle to cycle, and from node to node.
pub mod Ends
use Rattle.std.specs.Prelude.{◌≡◌, ℕ, ◌+◌, ◌%◌, ◌<◌, Bool, true, false, List, slice_get, Some}
use Rattle.ir_core.specs.declared.cfg.End.{End}
use Rattle.rtl_core.specs.Interface.{reset_of, start_of}
use Rattle.ir_core.specs.Bodies.{Words}
use Rattle.clock_ir.specs.Flows.{TimedBody, Flow, is_at, operand_at, first_flow, taken}
use Rattle.clock_ir.specs.ClockRuns.{TimedNode, block, overlapped, later}
use Rattle.datapath.specs.Plans.{Plan, body_at, span}
use Rattle.datapath.specs.Cycles.{Contents, in_cycle}
use Rattle.datapath.specs.Control.{leaves_as}
use Rattle.datapath.specs.Circuits.{Step}
use Rattle.datapath.specs.Standing.{IsWaiting, IsLoading, IsInside}
use Rattle.datapath.specs.Laws.{Leaves}
use Rattle.circuit_agreement.specs.CircuitFlow.Compiled.{IsCompiled}
use Rattle.circuit_agreement.specs.CircuitFlow.Flows.{Sees, Arrives, HoldsVariables}
use Rattle.circuit_agreement.specs.CircuitFlow.NodeEnds.Ends.{KeepsVariables, flow_behind, HandsOn, HoldsComparisons}

-- ---- where no node is left

-- A node that is not left changes no variable.
abbrev pub VariablesStay : Type 0
VariablesStay = (p : Plan) (i time : ℕ) (it : TimedNode) (x y : Contents) (pins : List ℕ) → slice_get p.program.nodes i ≡ Some it → IsInside i time x → (step : Step p x pins y)
    → leaves_as p (in_cycle x step.signals pins) i it ≡ false → KeepsVariables x y

-- so none changes in a block before its last cycle
abbrev pub VariablesStayInBlocks : Type 0
VariablesStayInBlocks = (p : Plan) (i : ℕ) (body : TimedBody) (end_ : End) (f : Flow) (x y : Contents) (pins : List ℕ) → slice_get p.program.nodes i ≡ Some (block body end_)
    → f.time + 1 < (body_at p i).interval → IsInside i (f.time % span p i) x → Step p x pins y → KeepsVariables x y

-- nor in a loop that takes its first values
abbrev pub VariablesStayLoading : Type 0
VariablesStayLoading = (p : Plan) (i : ℕ) (x y : Contents) (pins : List ℕ) → IsLoading i x → Step p x pins y → KeepsVariables x y

-- nor while the circuit waits
abbrev pub VariablesStayWaiting : Type 0
VariablesStayWaiting = (p : Plan) (done : Bool) (x y : Contents) (pins : List ℕ) → start_of pins ≡ 0 → IsWaiting done x → Step p x pins y → KeepsVariables x y

-- ---- where a node is left

-- A block hands its variables on in its last cycle, also values that only just come.
abbrev pub BlocksHandOn : Type 0
BlocksHandOn = (p : Plan) (i : ℕ) (body : TimedBody) (end_ : End) (f : Flow) (x y : Contents) (pins : List ℕ) → IsCompiled p
    → slice_get p.program.nodes i ≡ Some (block body end_) → f.time + 1 ≡ (body_at p i).interval → IsInside i (f.time % span p i) x → HoldsVariables p i f.entry x
    → (step : Step p x pins y) → Sees p i f (in_cycle x step.signals pins) → Arrives p i f (in_cycle x step.signals pins) → HandsOn p i end_ f (in_cycle x step.signals pins) y

-- A loop hands on the values of the iteration before the one that does not run.
abbrev pub LoopsHandOn : Type 0
LoopsHandOn = (p : Plan) (i : ℕ) (body : TimedBody) (exit next : ℕ) (f : Flow) (x y : Contents) (pins : List ℕ) → IsCompiled p
    → slice_get p.program.nodes i ≡ Some (overlapped body exit next) → is_at (body_at p i).interval exit f.time ≡ true → IsInside i (f.time % span p i) x → HoldsVariables p i f.entry x
    → (step : Step p x pins y) → Sees p i f (in_cycle x step.signals pins) → leaves_as p (in_cycle x step.signals pins) i (overlapped body exit next) ≡ true
    → HoldsVariables p next (taken (λ z. operand_at (body_at p i) f exit (later z)) (body_at p i).outs f.entry) y

-- ---- the node to which a block leads

-- As a block begins no comparison was made.
abbrev pub ComparisonsBegin : Type 0
ComparisonsBegin = (p : Plan) (i : ℕ) (body : TimedBody) (end_ : End) (t : Words) → slice_get p.program.nodes i ≡ Some (block body end_) → HoldsComparisons p i (first_flow (body_at p i) t)

-- Operands of comparisons that were made do not change any more.
abbrev pub ComparisonsStay : Type 0
ComparisonsStay = (p : Plan) (i : ℕ) (body : TimedBody) (end_ : End) (f : Flow) → IsCompiled p → slice_get p.program.nodes i ≡ Some (block body end_) → f.time + 1 < (body_at p i).interval
    → HoldsComparisons p i f → HoldsComparisons p i (flow_behind p i f)

-- So of cases that compare one operand with different constants no two hold, and the block is left for the node to which they lead in their order.
abbrev pub BlocksEnter : Type 0
BlocksEnter = (p : Plan) (i : ℕ) (body : TimedBody) (end_ : End) (f : Flow) (x y : Contents) (pins : List ℕ) → IsCompiled p
    → slice_get p.program.nodes i ≡ Some (block body end_) → f.time + 1 ≡ (body_at p i).interval → reset_of pins ≡ 0 → IsInside i (f.time % span p i) x → HoldsComparisons p i f
    → (step : Step p x pins y) → Sees p i f (in_cycle x step.signals pins) → Leaves p i end_ (in_cycle x step.signals pins) y
