-- What a module shows when it is driven through its pins, and what its function comes to in C.
use Rattle.std.specs.Prelude.{◌≡◌, ℕ, ◌%◌, ◌^◌, true, List, [], Option, Some, None, slice_get}
use Rattle.std.specs.Option.{option_map}
use Rattle.hls_base.specs.FileScope.{FileScope}
use Rattle.hls_base.specs.declared.point.Point.{Point}
use Rattle.c_tree.specs.Tree.{FunctionTree, ProgramTree}
use Rattle.c_meaning.specs.Checks.Programs.{program_faults}
use Rattle.c_meaning.specs.Points.{tally_of}
use Rattle.c_meaning.specs.FittingInputs.{inputs_fit}
use Rattle.c_meaning.specs.Run as c
use Rattle.c_meaning.specs.Run.{function_at, first_contents, c_run}
use Rattle.cosim_levels.specs.CAnswers.{c_answers}
use Rattle.cycle_report.specs.PlainReport.{PlainReport}
use Rattle.cycle_report.specs.FormulaValue.{cycles}
use Rattle.rtl_core.specs.Netlist.{Netlist}
use Rattle.rtl_core.specs.Valid.{IsValid}
use Rattle.rtl_core.specs.Interface.{Interface}
use Rattle.rtl_core.specs.Agreement.{Agrees}
use Rattle.cosim_levels.specs.declared.pins.drive.Shown.{Shown}
use Rattle.cosim_levels.specs.Pins.ModuleRun.{module_run}
use Rattle.cosim_levels.specs.Pins.FunctionPins.{interface_of}
use Rattle.cosim_levels.specs.Comparison.{first_difference}

-- ---- any answers

-- what is shown of the result, if there is one: its low bits, where the interface has a pin for it
abbrev pub IsShownResult : Option ℕ → Option ℕ → Option ℕ → Type 0
IsShownResult bits None ret = Unit {0}
IsShownResult bits (Some x) ret = ret ≡ option_map (λ n. x % 2 ^ n) bits

-- what is shown is this result, these elements, and so many cycles
pub record ShowsAnswer (i : Interface) (cycles : ℕ) (result : Option ℕ) (elements : List (List ℕ)) (shown : Shown) : Type 0 where
  pub time : shown.cycles ≡ cycles
  pub returned : IsShownResult i.result result shown.ret
  pub arrays : shown.arrays ≡ elements

-- The run of the module ends, with so many cycles of waiting at most, and shows this.
pub record RunShows (d : Netlist) (i : Interface) (scalars : List ℕ) (arrays : List (List ℕ)) (limit cycles : ℕ) (result : Option ℕ) (elements : List (List ℕ)) : Type 0 where
  pub shown : Shown
  pub ends : module_run d i scalars arrays limit ≡ Some shown
  pub shows : ShowsAnswer i cycles result elements shown

-- ---- the answers of C

-- The function is the item of this number of a program without faults, and the valid circuit agrees with the box of its runs in C, in the cycles of the report.
pub record AgreesWithC (p : ProgramTree) (top : ℕ) (f : FunctionTree) (report : PlainReport) (d : Netlist) : Type 0 where
  pub name : List ℕ
  pub faultless : program_faults p name ≡ []
  pub function : function_at (slice_get p.items top) ≡ Some f
  pub valid : IsValid d
  pub agrees : Agrees d (interface_of f) report.init (first_contents p) (c_answers p top report)

-- From the first contents of file scope, and inputs that fit, the run in C ends with this result and these elements, and so many cycles are what the report's formula gives for the points that it passes.
pub record EndsInC (p : ProgramTree) (top : ℕ) (f : FunctionTree) (report : PlainReport) (scalars : List ℕ) (arrays : List (List ℕ)) (count : ℕ) (result : Option ℕ) (elements : List (List ℕ)) : Type 0 where
  pub fit : inputs_fit f.params scalars arrays ≡ true
  pub points : ℕ
  pub left : FileScope
  pub trace : List Point
  pub ends : c_run p top (first_contents p) scalars arrays points ≡ c.ended result elements left trace
  pub counted : count ≡ cycles report.base report.rows (tally_of trace)

-- The run of the module ends, with so many cycles of waiting at most, and shows no difference from this end of a run in C.
pub record RunAgrees (d : Netlist) (f : FunctionTree) (scalars : List ℕ) (arrays : List (List ℕ)) (limit count : ℕ) (result : Option ℕ) (elements : List (List ℕ)) : Type 0 where
  pub shown : Shown
  pub ends : module_run d (interface_of f) scalars arrays limit ≡ Some shown
  pub same : first_difference f result elements count shown ≡ None
