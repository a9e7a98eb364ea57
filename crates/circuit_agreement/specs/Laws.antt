-- The circuit goes from phase to phase as the clocked run does, and so it agrees with the box that asks this run.
use Rattle.std.specs.Prelude.{◌≡◌, ℕ, List}
use Rattle.rtl_core.specs.Netlist.{Netlist}
use Rattle.rtl_core.specs.Valid.{IsValid}
use Rattle.rtl_core.specs.Interface.{reset_of}
use Rattle.ir_core.specs.Bodies.{Words}
use Rattle.clock_ir.specs.ClockRuns.{Phase, enter, clock_step}
use Rattle.datapath.specs.Plans.{Plan}
use Rattle.datapath.specs.Cycles.{Contents}
use Rattle.datapath.specs.Circuits.{Step}
use Rattle.datapath.specs.Netlists.{IsCircuitOf}
use Rattle.rtl_logic.specs.Reducing.{IsReducedBy}
use Rattle.datapath.specs.Standing.{IsEntered}
use Rattle.datapath.specs.Answers.{HasEnded}
use Rattle.circuit_agreement.specs.CircuitFlow.Compiled.{IsCompiled}
use Rattle.circuit_agreement.specs.CircuitFlow.Flows.{HoldsVariables, HoldsMemories}
use Rattle.circuit_agreement.specs.UnitResults.{HasWidths}
use Rattle.circuit_agreement.specs.Answers.{IsClear, AgreesWithRun}
use Rattle.circuit_agreement.specs.Standing.{FitsFrame, StandsIn}
use Rattle.circuit_agreement.specs.Boxes.{HasMemories}

-- A node that is entered is under way as in the clocked run, whatever else registers hold.
abbrev pub NodesAreEntered : Type 0
NodesAreEntered = (p : Plan) (c : IsCompiled p) (i : ℕ) (t : Words) (x : Contents) → IsEntered p i x → HoldsVariables p i t.variables x → HoldsMemories p t.memories x
    → StandsIn p c (enter p.program.nodes i t) x

-- An edge of the clock while a run is under way is a step of the clocked run.
abbrev pub RunsStep : Type 0
RunsStep = (p : Plan) (c : IsCompiled p) (phase : Phase) (x y : Contents) (pins : List ℕ) → FitsFrame p → StandsIn p c phase x → (HasEnded phase → ⊥) → IsClear p phase → HasWidths p x
    → reset_of pins ≡ 0 → Step p x pins y → StandsIn p c (clock_step p.program phase) y

-- What is reduced keeps its memories.
abbrev pub ReducedHasMemories : Type 0
ReducedHasMemories = (p : Plan) (keep : List ℕ) (d e : Netlist) → HasMemories p d → IsReducedBy keep d e → HasMemories p e

-- The circuit of a compiled program agrees with the box that asks its clocked run.
abbrev pub CircuitsAgree : Type 0
CircuitsAgree = (p : Plan) (d : Netlist) → IsCompiled p → FitsFrame p → IsCircuitOf p d → HasMemories p d → IsValid d → AgreesWithRun p d
