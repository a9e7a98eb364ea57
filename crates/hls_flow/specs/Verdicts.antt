-- What a comparison of a program, its module, its report and a run file comes to. The cases stand in the order of the work: the report, the module, the run file, the run in C, that of the module, and the first difference.
use Rattle.std.specs.Prelude.{◌≡◌, ◌≢◌, ◌≤◌, ℕ, List, length, Option, Some, None}
use Rattle.hls_base.specs.declared.inputs.Inputs.{Inputs}
use Rattle.hls_base.specs.declared.place.Place.{Place}
use Rattle.hls_base.specs.declared.refusal.Refusal.{Refusal}
use Rattle.c_tree.specs.Tree.{FunctionTree, ProgramTree}
use Rattle.c_meaning.specs.declared.outcome.Final.{Final}
use Rattle.c_meaning.specs.Run.{Answer, c_run, first_contents}
use Rattle.rtl_core.specs.Netlist.{Netlist}
use Rattle.rtl_core.specs.Interface.{Interface, HasPins}
use Rattle.rtl_core.specs.ModuleText.{IsModuleText}
use Rattle.verilog_syntax.specs.TextSyntax as syntax
use Rattle.verilog_read.specs.TextFaults as text
use Rattle.verilog_read.specs.NamePlace.{IsNamePlace}
use Rattle.cycle_report.specs.PlainReport.{PlainReport}
use Rattle.cycle_report.specs.ReportForm.{IsReport, IsRefusedAs, largest_report}
use Rattle.cycle_report.specs.FormulaValue.{cycles}
use Rattle.cosim_levels.specs.declared.pins.drive.Shown.{Shown}
use Rattle.cosim_levels.specs.Pins.FunctionPins.{interface_of}
use Rattle.cosim_levels.specs.Pins.ModuleRun.{module_run}
use Rattle.cosim_levels.specs.RunFile.{reading_of, inputs, refused}
use Rattle.cosim_levels.specs.Verdicts.{PlainVerdict, run_line, module_bad, report_bad}
use Rattle.c_elaborate.specs.Programs.{program_elaborated}
use Rattle.c_expand.specs.Expansion.{expansion}
use Rattle.cosim_levels.specs.Comparison.{first_difference, compared_with}
use Rattle.cosim_levels.specs.Levels.{EndsWith, IsUnended, IsWaiting}
use Rattle.hls_flow.specs.Clocked.{IsClockOf}
use Rattle.hls_flow.specs.FirstFault.{IsAccepted}
use Rattle.hls_flow.specs.declared.verdict.CosimInputs.{CosimInputs}

-- ---- the files

-- the report is one of the top function
pub record HasReport (given : CosimInputs) (report : PlainReport) : Type 0 where
  pub is : IsReport given.report report
  pub small : length given.report ≤ largest_report
  pub named : report.settings.top ≡ given.top

-- the name in a report, which stands in its second line behind `top`
abbrev pub report_name : Place
report_name = record { line = 2; column = 5; part = 0 }

-- the report's bytes are refused, or it is one of another function
pub data RefusesReport (given : CosimInputs) (why : Refusal) : Type 0 where
  no_report : IsRefusedAs given.report why → RefusesReport given why
  other_function : (report : PlainReport) → IsReport given.report report → length given.report ≤ largest_report → report.settings.top ≢ given.top
      → why ≡ record { rule = 61; place = report_name } → RefusesReport given why

-- the module is a circuit with the pins of the function
pub record HasModule (given : CosimInputs) (i : Interface) (d : Netlist) : Type 0 where
  pub is : IsModuleText given.module d
  pub small : length given.module ≤ syntax.limit
  pub pins : HasPins d i

-- the module's bytes are refused, or it is a circuit with other pins, which is told at its name
pub data RefusesModule (given : CosimInputs) (i : Interface) (why : Refusal) : Type 0 where
  no_module : text.IsFirstFault given.module why → RefusesModule given i why
  other_pins : (d : Netlist) (place : Place) → IsModuleText given.module d → length given.module ≤ syntax.limit → ¬ HasPins d i
      → IsNamePlace given.module place → why ≡ record { rule = 57; place = place } → RefusesModule given i why

abbrev pub IsBadReport : CosimInputs → PlainVerdict → Type 0
IsBadReport given (report_bad why) = RefusesReport given why
IsBadReport given _ = ⊥

abbrev pub IsBadModule : CosimInputs → Interface → PlainVerdict → Type 0
IsBadModule given i (module_bad why) = RefusesModule given i why
IsBadModule given i _ = ⊥

abbrev pub IsBadLine : CosimInputs → FunctionTree → PlainVerdict → Type 0
IsBadLine given f (run_line line) = reading_of f.params given.run ≡ refused line
IsBadLine given f _ = ⊥

-- what the files give
pub record Files : Type 0 where
  pub report : PlainReport
  pub circuit : Netlist
  pub scalars : List ℕ
  pub arrays : List (List ℕ)

pub record AreFiles (given : CosimInputs) (f : FunctionTree) (files : Files) : Type 0 where
  pub report : HasReport given files.report
  pub circuit : HasModule given (interface_of f) files.circuit
  pub inputs : reading_of f.params given.run ≡ inputs files.scalars files.arrays

-- the verdict where a file is refused
pub data IsStoppedAtFiles (given : CosimInputs) (f : FunctionTree) (verdict : PlainVerdict) : Type 0 where
  at_report : IsBadReport given verdict → IsStoppedAtFiles given f verdict
  at_module : (report : PlainReport) → HasReport given report → IsBadModule given (interface_of f) verdict → IsStoppedAtFiles given f verdict
  at_line : (report : PlainReport) (d : Netlist) → HasReport given report → HasModule given (interface_of f) d → IsBadLine given f verdict → IsStoppedAtFiles given f verdict

-- ---- the runs

-- how many points a run may pass at most, so that the cycles that a report gives for it have 127 bits
abbrev pub greatest_points : ℕ
greatest_points = 1000000000

-- the run in C, from the contents that the initialisers of file scope give
abbrev pub run_in_c : CosimInputs → ProgramTree → ℕ → Files → Answer
run_in_c given program index files = c_run program index (first_contents program) files.scalars files.arrays given.points

abbrev pub run_of_module : CosimInputs → FunctionTree → Files → Option Shown
run_of_module given f files = module_run files.circuit (interface_of f) files.scalars files.arrays given.cycles

abbrev pub inputs_of : Files → Inputs
inputs_of files = record { scalars = files.scalars; arrays = files.arrays }

-- The verdict on two runs that ended: they are compared, with the cycles that the report's formula gives for the points that the run in C passed. Where they agree, it is told after how many edges the clocked run of the program that the source is compiled to with the settings of the report ends, with the result and the elements of the run in C.
pub record IsCompared (given : CosimInputs) (program : ProgramTree) (index : ℕ) (f : FunctionTree) (files : Files) (final : Final) (verdict : PlainVerdict) : Type 0 where
  pub shown : Shown
  pub run : run_of_module given f files ≡ Some shown
  pub clock : ℕ
  pub clock_is : first_difference f final.ret final.arrays (cycles files.report.base files.report.rows final.tally) shown ≡ None → IsClockOf (expansion (program_elaborated program index)) files.report.settings (inputs_of files) final.ret final.arrays clock
  pub is : verdict ≡ compared_with f final.ret final.arrays (cycles files.report.base files.report.rows final.tally) shown clock

-- ---- the verdict

-- on a program with this top function
pub data IsVerdictOn (given : CosimInputs) (program : ProgramTree) (index : ℕ) (f : FunctionTree) (verdict : PlainVerdict) : Type 0 where
  at_files : IsStoppedAtFiles given f verdict → IsVerdictOn given program index f verdict
  unended : (files : Files) → AreFiles given f files → IsUnended (run_in_c given program index files) given.points verdict → IsVerdictOn given program index f verdict
  waiting : (files : Files) (final : Final) → AreFiles given f files → EndsWith (run_in_c given program index files) final
      → IsWaiting files.circuit (interface_of f) files.scalars files.arrays given.cycles verdict → IsVerdictOn given program index f verdict
  compared : (files : Files) (final : Final) → AreFiles given f files → EndsWith (run_in_c given program index files) final
      → IsCompared given program index f files final verdict → IsVerdictOn given program index f verdict

-- The source is accepted, and this is the verdict on its program.
pub record IsVerdict (given : CosimInputs) (verdict : PlainVerdict) : Type 0 where
  pub accepted : IsAccepted given.source given.top
  pub verdict_is : IsVerdictOn given accepted.program accepted.index accepted.function verdict
