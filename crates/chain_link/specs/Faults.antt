-- Which circuits can be linked, and the first fault if they cannot.
use Rattle.std.specs.Prelude.{◌≡◌, ◌≢◌, ◌⊎◌, ℕ, suc, List, [], ◌∷◌, length, codes, slice_get, Option, Some, None, IfSome}
use Rattle.hls_base.specs.declared.refusal.Refusal.{Refusal}
use Rattle.hls_base.specs.declared.place.Place.{Place}
use Rattle.rtl_core.specs.Netlist.{Netlist}
use Rattle.rtl_core.specs.declared.design.Pin.{Pin}
use Rattle.rtl_core.specs.Interface.{pin, HasPins, input_pins, output_pins}
use Rattle.rtl_core.specs.Valid.{IsBetween}
use Rattle.chain_box.specs.StageBoxes.{stage_interface}
use Rattle.chain_link.specs.Linking.{argument_bits, result_bits}

-- the inputs of a function with one scalar parameter
abbrev pub AreStageInputs : List Pin → Type 0
AreStageInputs pins = (argument : ℕ) × (pins ≡ input_pins (stage_interface argument 0))

-- the outputs of a function with a result
abbrev pub AreStageOutputs : List Pin → Type 0
AreStageOutputs pins = (result : ℕ) × (pins ≡ output_pins (stage_interface 0 result))

-- the same, pin by pin
abbrev pub HaveStageInputs : List Pin → Type 0
HaveStageInputs pins =
    (length pins ≡ 8)
    × ((slice_get pins 0 ≡ Some (pin (codes "reset") 1)) × (slice_get pins 1 ≡ Some (pin (codes "start") 1)) × (slice_get pins 2 ≡ Some (pin (codes "h_en") 1))
    × (slice_get pins 3 ≡ Some (pin (codes "h_we") 1)))
    × ((slice_get pins 4 ≡ Some (pin (codes "h_sel") 5)) × (slice_get pins 5 ≡ Some (pin (codes "h_addr") 16)) × (slice_get pins 6 ≡ Some (pin (codes "h_wdata") 64)))
    × ((bits : ℕ) × (slice_get pins 7 ≡ Some (pin (codes "arg_0") bits)))

abbrev pub HaveStageOutputs : List Pin → Type 0
HaveStageOutputs pins =
    (length pins ≡ 4)
    × ((slice_get pins 0 ≡ Some (pin (codes "ready") 1)) × (slice_get pins 1 ≡ Some (pin (codes "done") 1)) × (slice_get pins 2 ≡ Some (pin (codes "h_rdata") 64)))
    × ((bits : ℕ) × (slice_get pins 3 ≡ Some (pin (codes "ret") bits)))

-- the pins of a function with exactly one scalar parameter and a result
abbrev pub HasStagePins : Netlist → Type 0
HasStagePins d = (argument : ℕ) × (result : ℕ) × HasPins d (stage_interface argument result)

-- The parameter has the width of the result before it, if there is one.
abbrev pub Joins : Option ℕ → Netlist → Type 0
Joins before d = IfSome before (λ bits. argument_bits d ≡ bits)

-- a stage after a result of width `before`, if there is one
pub record IsStage (before : Option ℕ) (d : Netlist) : Type 0 where
  pub pins : HasStagePins d
  pub mems : d.mems ≡ []
  pub joins : Joins before d

abbrev pub AreStages : Option ℕ → List Netlist → Type 0
AreStages before [] = Unit {0}
AreStages before (d ∷ ds) = IsStage before d × AreStages (Some (result_bits d)) ds

-- the first of the rules 83, 81 and 80, in this order, that a circuit breaks
abbrev pub IsStageFault : Option ℕ → Netlist → ℕ → Type 0
IsStageFault before d rule =
    ((¬ HasStagePins d) × (rule ≡ 83))
    ⊎ ((HasStagePins d × (d.mems ≢ []) × (rule ≡ 81))
    ⊎ (HasStagePins d × (d.mems ≡ []) × (¬ Joins before d) × (rule ≡ 80)))

-- Circuit K is reported at place K:1.
abbrev pub place_of_stage : ℕ → Place
place_of_stage k = record { line = k; column = 1; part = 0 }

abbrev pub refusal_at : ℕ → ℕ → Refusal
refusal_at rule k = record { rule = rule; place = place_of_stage k }

-- the fault of the first circuit that has one; the list begins with circuit k
abbrev pub IsFirstFault : ℕ → Option ℕ → List Netlist → Refusal → Type 0
IsFirstFault k before [] r = ⊥
IsFirstFault k before (d ∷ ds) r = (IsStageFault before d r.rule × (r.place ≡ place_of_stage k)) ⊎ (IsStage before d × IsFirstFault (suc k) (Some (result_bits d)) ds r)

-- rule 82: 1 to 16 circuits
abbrev pub AreFew : List Netlist → Type 0
AreFew ds = IsBetween 1 16 (length ds)

abbrev pub IsLinkFault : List Netlist → Refusal → Type 0
IsLinkFault ds r = ((¬ AreFew ds) × (r.rule ≡ 82) × (r.place ≡ place_of_stage 1)) ⊎ (AreFew ds × IsFirstFault 1 None ds r)
