-- What follows from the definition of circuits.
use Rattle.std.specs.Prelude.{◌-◌, true, ◌≡◌, ◌≢◌, ℕ, ◌+◌, ◌^◌, ◌<◌, Bool, false, List, slice_get, Option, Some, ◌%◌}
use Rattle.ir_core.specs.declared.cfg.End.{End}
use Rattle.rtl_core.specs.Interface.{reset_of, start_of}
use Rattle.clock_ir.specs.Flows.{TimedBody}
use Rattle.ir_core.specs.FlatRuns.{Going, to, ends}
use Rattle.clock_ir.specs.ClockRuns.{going_by, block, overlapped}
use Rattle.datapath.specs.Plans.{Plan, span, initial_cycles}
use Rattle.datapath.specs.Cycles.{Contents, Cycle, in_cycle}
use Rattle.datapath.specs.Reading.{operand}
use Rattle.datapath.specs.Control.{greatest_time, leaves_as}
use Rattle.datapath.specs.Circuits.{Step}
use Rattle.datapath.specs.Standing.{IsWaiting, IsInSequence, IsLoading, IsInside, IsEntered}

-- from all contents, whatever the pins, a circuit goes on
abbrev pub GoesOn : Type 0
GoesOn = (p : Plan) (x : Contents) (pins : List ℕ) → (y : Contents) × Step p x pins y

-- behind a cycle of reset, whatever was held before, the circuit waits, or its initial sequence begins; and no array is changed
pub record Resets (p : Plan) (x y : Contents) : Type 0 where
  pub waits : initial_cycles p ≡ 0 → IsWaiting false y
  pub begins : initial_cycles p ≢ 0 → IsInSequence 0 y
  pub memories : (a address : ℕ) → y.memories a address ≡ x.memories a address

abbrev pub ResetsAlways : Type 0
ResetsAlways = (p : Plan) (x y : Contents) (pins : List ℕ) → reset_of pins ≡ 1 → Step p x pins y → Resets p x y

-- the initial sequence takes its cycles, whatever the other pins, and then the circuit waits
pub record InSequence (p : Plan) (time : ℕ) (y : Contents) : Type 0 where
  pub goes_on : time + 1 < initial_cycles p → IsInSequence (time + 1) y
  pub ends_ : time + 1 ≡ initial_cycles p → IsWaiting false y

abbrev pub Sequences : Type 0
Sequences = (p : Plan) (time : ℕ) (x y : Contents) (pins : List ℕ) → greatest_time p < 2 ^ 64 → reset_of pins ≡ 0 → IsInSequence time x → Step p x pins y → InSequence p time y

-- while no start comes the circuit waits
abbrev pub Waits : Type 0
Waits = (p : Plan) (done : Bool) (x y : Contents) (pins : List ℕ) → reset_of pins ≡ 0 → start_of pins ≡ 0 → IsWaiting done x → Step p x pins y → IsWaiting done y

-- a start enters the first node
abbrev pub Starts : Type 0
Starts = (p : Plan) (done : Bool) (x y : Contents) (pins : List ℕ) → reset_of pins ≡ 0 → start_of pins ≡ 1 → IsWaiting done x → Step p x pins y → IsEntered p p.program.first y

-- the time of a loop begins one cycle after it was entered
abbrev pub Loads : Type 0
Loads = (p : Plan) (i : ℕ) (body : TimedBody) (exit next : ℕ) (x y : Contents) (pins : List ℕ) → slice_get p.program.nodes i ≡ Some (overlapped body exit next)
    → reset_of pins ≡ 0 → IsLoading i x → Step p x pins y → IsInside i 0 y

-- a block is under way until its last cycle
abbrev pub Stays : Type 0
Stays = (p : Plan) (i time : ℕ) (body : TimedBody) (end_ : End) (x y : Contents) (pins : List ℕ) → greatest_time p < 2 ^ 64 → slice_get p.program.nodes i ≡ Some (block body end_)
    → time + 1 < span p i → reset_of pins ≡ 0 → IsInside i time x → Step p x pins y → IsInside i (time + 1) y

-- what the end of node i leads to in this cycle, by what the registers hold
abbrev pub leads_to : Plan → ℕ → End → Cycle → Going
leads_to p i end_ c = going_by (operand p c i (span p i - 1)) end_

-- Behind its last cycle a block is left for the node to which its end leads, or the run has ended.
pub record Leaves (p : Plan) (i : ℕ) (end_ : End) (c : Cycle) (y : Contents) : Type 0 where
  pub enters : (j : ℕ) → leads_to p i end_ c ≡ to j → IsEntered p j y
  pub ends_ : (word : Option ℕ) → leads_to p i end_ c ≡ ends word → IsWaiting true y

abbrev pub LeavesBlocks : Type 0
LeavesBlocks = (p : Plan) (i : ℕ) (body : TimedBody) (end_ : End) (x y : Contents) (pins : List ℕ) → slice_get p.program.nodes i ≡ Some (block body end_)
    → p.savings.exclusive i ≡ false → reset_of pins ≡ 0 → IsInside i (span p i - 1) x → (step : Step p x pins y) → Leaves p i end_ (in_cycle x step.signals pins) y

-- a loop goes on until it is left, and its time begins anew with each interval
abbrev pub StaysInLoops : Type 0
StaysInLoops = (p : Plan) (i time : ℕ) (body : TimedBody) (exit next : ℕ) (x y : Contents) (pins : List ℕ) → greatest_time p < 2 ^ 64
    → slice_get p.program.nodes i ≡ Some (overlapped body exit next) → time < span p i → reset_of pins ≡ 0 → IsInside i time x → (step : Step p x pins y)
    → leaves_as p (in_cycle x step.signals pins) i (overlapped body exit next) ≡ false → IsInside i ((time + 1) % span p i) y

abbrev pub LeavesLoops : Type 0
LeavesLoops = (p : Plan) (i time : ℕ) (body : TimedBody) (exit next : ℕ) (x y : Contents) (pins : List ℕ) → slice_get p.program.nodes i ≡ Some (overlapped body exit next)
    → reset_of pins ≡ 0 → IsInside i time x → (step : Step p x pins y) → leaves_as p (in_cycle x step.signals pins) i (overlapped body exit next) ≡ true → IsEntered p next y
