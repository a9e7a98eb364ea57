-- How agreement of a circuit with its box is shown. Since it speaks of all relations and answers, the statement stands in no clause; its proof is `proofs/Relating`.
use Rattle.std.specs.Prelude.{◌≡◌, ℕ, List}
use Rattle.hls_base.specs.FileScope.{FileScope}
use Rattle.rtl_core.specs.Netlist.{Netlist}
use Rattle.rtl_core.specs.ClockStep.{State, IsState, ArePins, stepped, outputs}
use Rattle.rtl_core.specs.Valid.{IsValid}
use Rattle.rtl_core.specs.Interface.{Interface, HasPins, HoldArrays, reset_of}
use Rattle.rtl_core.specs.Box.{Answers, Box, BoxStep}
use Rattle.rtl_core.specs.Agreement.{Shows, IsBroken, Agrees, after_reset}

-- A relation between what the circuit holds and the box: it holds behind a cycle of reset; where it holds the outputs show the box; and it holds again behind each cycle, as long as the box is not broken.
pub record Relates (d : Netlist) (i : Interface) (init : ℕ) (file_scope : FileScope) (answers : Answers) (R : State → Box → Type 0) : Type 0 where
  pub begins : (power_up : State) (first : List ℕ) → IsState d power_up → ArePins d first → reset_of first ≡ 1 → R (stepped d power_up first) (after_reset i init file_scope power_up)
  pub shows : (s : State) (b : Box) (pins : List ℕ) → IsState d s → R s b → ¬ IsBroken b.phase → ArePins d pins → reset_of pins ≡ 0 → Shows b (outputs d s pins)
  pub goes_on : (s : State) (b next : Box) (pins : List ℕ) → IsState d s → R s b → ¬ IsBroken b.phase → ArePins d pins → reset_of pins ≡ 0 → BoxStep i answers b pins next
      → R (stepped d s pins) next

-- a circuit with such a relation agrees with the box
abbrev pub RelatedAgree : Type 1
RelatedAgree = (d : Netlist) (i : Interface) (init : ℕ) (file_scope : FileScope) (answers : Answers) (R : State → Box → Type 0) → IsValid d → HasPins d i → HoldArrays d.mems i.arrays
    → Relates d i init file_scope answers R → Agrees d i init file_scope answers
