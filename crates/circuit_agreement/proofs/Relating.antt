-- A relation in each cycle is agreement.
use Rattle.std.proofs.Common.{◌≡◌, ℕ, List, [], ◌∷◌}
use Rattle.std.specs.List.{All}
use Rattle.std.proofs.lemmas.List.Elements.{All-head, All-tail}
use Rattle.hls_base.specs.FileScope.{FileScope}
use Rattle.rtl_core.specs.Netlist.{Netlist}
use Rattle.rtl_core.specs.ClockStep.{State, IsState, ArePins, stepped}
use Rattle.rtl_core.specs.Valid.{IsValid}
use Rattle.rtl_core.specs.Interface.{Interface, reset_of}
use Rattle.rtl_core.specs.Box.{Answers, Box}
use Rattle.rtl_core.specs.Agreement.{Follows}
use Rattle.rtl_core.proofs.Fits.{step_is_state}
use Rattle.circuit_agreement.specs.Relating.{Relates, RelatedAgree}

abbrev pub Low : Netlist → List ℕ → Type 0
Low d pins = ArePins d pins × (reset_of pins ≡ 0)

module _ (d : Netlist) (i : Interface) (init : ℕ) (file_scope : FileScope) (answers : Answers) (R : State → Box → Type 0) (valid : IsValid d) (relates : Relates d i init file_scope answers R) where
  follows : (rest : List (List ℕ)) (s : State) (b : Box) → IsState d s → R s b → All (Low d) rest → Follows d i answers s b rest
  follows [] s b is holds low = tt
  follows (pins ∷ rest) s b is holds low = λ whole.
      let now = All-head (Low d) pins rest low in (
        relates.shows s b pins is holds whole now.0 now.1,
        λ next step.
            follows rest (stepped d s pins) next (step_is_state d s pins valid is now.0) (relates.goes_on s b next pins is holds whole now.0 now.1 step) (All-tail (Low d) pins rest low),
      )

pub related : RelatedAgree
related d i init file_scope answers R valid pins arrays relates = record {
  pins = pins;
  arrays = arrays;
  follows = λ power_up first rest is are high low.
      follows d i init file_scope answers R valid relates rest (stepped d power_up first) _ (step_is_state d power_up first valid is are) (relates.begins power_up first is are high) low;
}
