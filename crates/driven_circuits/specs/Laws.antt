-- Circuits that agree with the box, driven through their pins.
use Rattle.std.specs.Prelude.{◌≡◌, ℕ, ◌<◌, ◌≤◌, List, Option, Some, None}
use Rattle.hls_base.specs.FileScope.{FileScope}
use Rattle.c_tree.specs.Tree.{FunctionTree, ProgramTree}
use Rattle.cycle_report.specs.PlainReport.{PlainReport}
use Rattle.rtl_core.specs.Netlist.{Netlist}
use Rattle.rtl_core.specs.ClockStep.{Fit}
use Rattle.rtl_core.specs.Valid.{IsValid}
use Rattle.rtl_core.specs.Interface.{Interface}
use Rattle.rtl_core.specs.Box.{Answer, Answers, Ended}
use Rattle.rtl_core.specs.Agreement.{Agrees}
use Rattle.cosim_levels.specs.declared.pins.drive.Shown.{Shown}
use Rattle.cosim_levels.specs.Pins.ModuleRun.{module_run}
use Rattle.cosim_levels.specs.Pins.FunctionPins.{interface_of}
use Rattle.cosim_levels.specs.Comparison.{first_difference}
use Rattle.driven_circuits.specs.Fitting.{IsReached, AreArrays}
use Rattle.driven_circuits.specs.Driven.{RunShows, AgreesWithC, EndsInC, RunAgrees}

-- the answers where each start has this one
abbrev pub answers_by : (FileScope → List ℕ → List (List ℕ) → Answer) → Answers
answers_by answer kept arguments arrays a = a ≡ answer kept arguments arrays

-- A valid circuit that agrees with the box shows, driven through its pins, the answer of the box to that start, if it ends, takes at least two cycles, and takes no more than are waited for.
abbrev pub AgreeingCircuitsShowAnswers : Type 0
AgreeingCircuitsShowAnswers = (d : Netlist) (i : Interface) (init : ℕ) (first : FileScope) (answer : FileScope → List ℕ → List (List ℕ) → Answer) → IsValid d → Agrees d i init first (answers_by answer)
    → IsReached i → (scalars : List ℕ) (arrays : List (List ℕ)) → Fit i.scalars scalars → AreArrays i.arrays arrays
    → (cycles : ℕ) (result : Option ℕ) (elements : List (List ℕ)) (left : FileScope) → answer first scalars arrays ≡ Ended cycles result elements left → AreArrays i.arrays elements
    → (limit : ℕ) → 2 ≤ cycles → cycles ≤ limit → init < limit → RunShows d i scalars arrays limit cycles result elements

-- A circuit that agrees with C shows, driven through its pins, no difference from the end of the run in C, if that takes at least two cycles, and no more than are waited for.
abbrev pub AgreeingCircuitsDoNotDiffer : Type 0
AgreeingCircuitsDoNotDiffer = (p : ProgramTree) (top : ℕ) (f : FunctionTree) (report : PlainReport) (d : Netlist) → AgreesWithC p top f report d
    → (scalars : List ℕ) (arrays : List (List ℕ)) (count : ℕ) (result : Option ℕ) (elements : List (List ℕ)) → EndsInC p top f report scalars arrays count result elements
    → (limit : ℕ) → 2 ≤ count → count ≤ limit → report.init < limit → RunAgrees d f scalars arrays limit count result elements

-- With however many cycles of waiting: if the module's run ends, it shows no difference.
abbrev pub AgreeingCircuitsNeverDiffer : Type 0
AgreeingCircuitsNeverDiffer = (p : ProgramTree) (top : ℕ) (f : FunctionTree) (report : PlainReport) (d : Netlist) → AgreesWithC p top f report d
    → (scalars : List ℕ) (arrays : List (List ℕ)) (count : ℕ) (result : Option ℕ) (elements : List (List ℕ)) → EndsInC p top f report scalars arrays count result elements
    → (limit : ℕ) → 2 ≤ count → (shown : Shown) → module_run d (interface_of f) scalars arrays limit ≡ Some shown → first_difference f result elements count shown ≡ None
