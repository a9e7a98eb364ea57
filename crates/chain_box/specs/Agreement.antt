-- Agreement of a circuit with a chain box: in every cycle after the reset the circuit's outputs are the chain's, for every power-up contents and every list of pin values.
use Rattle.std.specs.Prelude.{◌≡◌, ℕ, true, List, [], ◌∷◌, ◌++◌, map, codes, slice_index, ◌==◌, Option, Some}
use Rattle.std.specs.List.{All, AllByRecursion}
use Rattle.rtl_core.specs.declared.design.Pin.{Pin}
use Rattle.rtl_core.specs.Netlist.{Netlist}
use Rattle.rtl_core.specs.ClockStep.{State, IsState, ArePins, bit_of, stepped, outputs}
use Rattle.rtl_core.specs.Interface.{pin, outer, reset_of}
use Rattle.rtl_core.specs.Agreement.{Agrees}
use Rattle.chain_box.specs.StageBoxes.{StageBox, answers_of, interface_of, HasResults, AlwaysAnswers}
use Rattle.chain_box.specs.Chains.{Chain, Pins, Outs, ChainStep, chain_outs, begun, AreSound, items_in, items_out, composed}

-- the inputs, where `bits` is the width of the items put in
abbrev pub chain_inputs : ℕ → List Pin
chain_inputs bits = pin (codes "reset") 1 ∷ pin (codes "in_valid") 1 ∷ pin (codes "in_data") bits ∷ pin (codes "out_take") 1 ∷ []

-- the outputs, where `bits` is the width of the items taken out
abbrev pub chain_outputs : ℕ → List Pin
chain_outputs bits = pin (codes "in_room") 1 ∷ pin (codes "out_valid") 1 ∷ pin (codes "out_data") bits ∷ []

pub record HasChainPins (d : Netlist) (argument result : ℕ) : Type 0 where
  pub inputs : d.inputs ≡ chain_inputs argument
  pub outputs : map outer d.outputs ≡ chain_outputs result

-- the pins of a cycle, in the chain's terms
abbrev pub pins_of : List ℕ → Pins
pins_of pins = record { in_valid = slice_index pins 1 == 1; in_data = slice_index pins 2; out_take = slice_index pins 3 == 1 }

abbrev pub outs_of : List ℕ → Outs
outs_of outs = record { in_room = slice_index outs 0 == 1; out_valid = slice_index outs 1 == 1; out_data = slice_index outs 2 }

-- the outputs of a cycle; `out_data` counts only if `out_valid` is 1
pub record ShowsOuts (o : Outs) (outs : List ℕ) : Type 0 where
  pub in_room : slice_index outs 0 ≡ bit_of o.in_room
  pub out_valid : slice_index outs 1 ≡ bit_of o.out_valid
  pub out_data : o.out_valid ≡ true → slice_index outs 2 ≡ o.out_data

-- The outputs are the chain's in every cycle before the first one in which a box is broken, for every possible continuation of the chain.
abbrev pub FollowsChain : Netlist → ℕ → State → Chain → List (List ℕ) → Type 0
FollowsChain d depth s c [] = Unit {0}
FollowsChain d depth s c (pins ∷ rest) =
    AreSound c.links → ShowsOuts (chain_outs depth c) (outputs d s pins) × ((next : Chain) → ChainStep depth (pins_of pins) c next → FollowsChain d depth (stepped d s pins) next rest)

-- power-up contents, and pin values with reset high in the first cycle only
pub record IsStream (d : Netlist) (power_up : State) (start : List ℕ) (rest : List (List ℕ)) : Type 0 where
  pub contents : IsState d power_up
  pub begins : ArePins d start
  pub reset : reset_of start ≡ 1
  pub goes_on : All (λ pins. ArePins d pins × (reset_of pins ≡ 0)) rest

abbrev pub AgreesWithChain : Netlist → ℕ → List StageBox → Type 0
AgreesWithChain d depth boxes = (power_up : State) (start : List ℕ) (rest : List (List ℕ)) → IsStream d power_up start rest → FollowsChain d depth (stepped d power_up start) (begun boxes) rest

-- Each stage agrees with its box, and every run of the box that ends has a result.
abbrev pub AreStagesOf : List Netlist → List StageBox → Type 0
AreStagesOf [] [] = Unit {0}
AreStagesOf [] (b ∷ boxes) = ⊥
AreStagesOf (d ∷ stages) [] = ⊥
AreStagesOf (d ∷ stages) (b ∷ boxes) = Agrees d (interface_of b) b.init b.file_scope (answers_of b.answers) × HasResults b × AreStagesOf stages boxes

-- ---- items at the circuit's pins

-- the outputs of all cycles, in the chain's terms
abbrev pub circuit_outs : Netlist → State → List (List ℕ) → List Outs
circuit_outs d s [] = []
circuit_outs d s (pins ∷ rest) = outs_of (outputs d s pins) ∷ circuit_outs d (stepped d s pins) rest

abbrev pub all_pins : List (List ℕ) → List Pins
all_pins rest = map pins_of rest

-- There is a run of the chain in which no box is broken in any of these cycles.
abbrev pub RunsSoundly : ℕ → Chain → List (List ℕ) → Type 0
RunsSoundly depth c [] = Unit {0}
RunsSoundly depth c (pins ∷ rest) = AreSound c.links × ((next : Chain) × ChainStep depth (pins_of pins) c next × RunsSoundly depth next rest)

-- The items taken out at the circuit's pins are the first of the composed results of the items put in, in order, each once.
abbrev pub ItemsCompose : Netlist → State → List (List ℕ) → List (ℕ → Option ℕ) → Type 0
ItemsCompose d s rest results =
    (later : List (Option ℕ)) × (map Some (items_out (all_pins rest) (circuit_outs d s rest)) ++ later ≡ map (composed results) (items_in (all_pins rest) (circuit_outs d s rest)))

-- This holds if no box is broken in any of the cycles.
abbrev pub Composes : Netlist → ℕ → List StageBox → List (ℕ → Option ℕ) → Type 0
Composes d depth boxes results = (power_up : State) (start : List ℕ) (rest : List (List ℕ)) → IsStream d power_up start rest → RunsSoundly depth (begun boxes) rest
    → ItemsCompose d (stepped d power_up start) rest results

abbrev pub AllAnswer : List StageBox → Type 0
AllAnswer boxes = AllByRecursion AlwaysAnswers boxes

-- This holds for all pin values if every start has a meaningful answer.
abbrev pub AlwaysComposes : Netlist → List (ℕ → Option ℕ) → Type 0
AlwaysComposes d results = (power_up : State) (start : List ℕ) (rest : List (List ℕ)) → IsStream d power_up start rest → ItemsCompose d (stepped d power_up start) rest results
