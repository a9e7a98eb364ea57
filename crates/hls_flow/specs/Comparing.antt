-- What the steps of a comparison give.
use Rattle.std.specs.Prelude.{◌≡◌, ℕ, Option, Some}
use Rattle.hls_base.specs.declared.inputs.Inputs.{Inputs}
use Rattle.hls_base.specs.declared.settings.Settings.{Settings}
use Rattle.c_tree.specs.Tree.{FunctionTree}
use Rattle.pieces.specs.Program.{ExpandedTree}
use Rattle.c_meaning.specs.declared.outcome.Final.{Final}
use Rattle.rtl_core.specs.Netlist.{netlist_of}
use Rattle.cycle_report.specs.PlainReport.{plain_of}
use Rattle.cycle_report.specs.FormulaValue.{cycles}
use Rattle.cosim_levels.specs.declared.pins.drive.Shown.{Shown}
use Rattle.cosim_levels.specs.declared.verdict.Difference.{Difference}
use Rattle.cosim_levels.specs.Verdicts.{PlainVerdict, agree}
use Rattle.cosim_levels.specs.Comparison.{result_number, array_parameters, shown_arrays, first_difference}
use Rattle.hls_flow.specs.Clocked.{IsClockOf}
use Rattle.hls_flow.specs.declared.files.Read.{Read}
use Rattle.hls_flow.specs.declared.verdict.CosimInputs.{CosimInputs}
use Rattle.hls_flow.specs.Verdicts.{Files, run_of_module}

abbrev pub files_of : Read → Files
files_of r = record { report = plain_of r.report; circuit = netlist_of r.design; scalars = r.inputs.scalars; arrays = r.inputs.arrays }

-- the module's run and the cycles that the report gives, and where the module differs first
pub record AreCompared (given : CosimInputs) (f : FunctionTree) (files : Files) (final : Final) (count : ℕ) (difference : Option Difference) : Type 0 where
  pub shown : Shown
  pub run : run_of_module given f files ≡ Some shown
  pub counted : count ≡ cycles files.report.base files.report.rows final.tally
  pub difference_is : difference ≡ first_difference f final.ret final.arrays count shown

-- The verdict where no number differs: it tells after how many edges the clocked run of the program that this one is compiled to with these settings ends, with the result and the elements of the run in C.
pub record IsAgreement (e : ExpandedTree) (settings : Settings) (inputs : Inputs) (f : FunctionTree) (final : Final) (count : ℕ) (verdict : PlainVerdict) : Type 0 where
  pub clock : ℕ
  pub clock_is : IsClockOf e settings inputs final.ret final.arrays clock
  pub is : verdict ≡ agree (result_number f.result final.ret) (shown_arrays (array_parameters f) final.arrays) count clock
