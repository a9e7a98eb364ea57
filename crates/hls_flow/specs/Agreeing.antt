-- Files that agree with their source, and a run of them that ends in time.
use Rattle.std.specs.Prelude.{◌≤◌, ◌<◌}
use Rattle.c_meaning.specs.declared.outcome.Final.{Final}
use Rattle.c_meaning.specs.Run.{first_contents}
use Rattle.cosim_levels.specs.CAnswers.{c_answers}
use Rattle.rtl_core.specs.Agreement.{Agrees}
use Rattle.cycle_report.specs.FormulaValue.{cycles}
use Rattle.cosim_levels.specs.Pins.FunctionPins.{interface_of}
use Rattle.cosim_levels.specs.Levels.{EndsWith}
use Rattle.hls_flow.specs.FirstFault.{IsAccepted}
use Rattle.hls_flow.specs.Verdicts.{Files, AreFiles, run_in_c}
use Rattle.hls_flow.specs.declared.verdict.CosimInputs.{CosimInputs}

-- No file is refused; the circuit agrees with the box of the function, in the cycles of the report, from the report's initial cycles on. The run in C ends within its limit. It takes two cycles at least, and no more than are waited for, and its initial sequence takes fewer.
pub record AgreesInTime (given : CosimInputs) (accepted : IsAccepted given.source given.top) : Type 0 where
  pub files : Files
  pub are : AreFiles given accepted.function files
  pub agrees : Agrees files.circuit (interface_of accepted.function) files.report.init (first_contents accepted.program) (c_answers accepted.program accepted.index files.report)
  pub final : Final
  pub ends : EndsWith (run_in_c given accepted.program accepted.index files) final
  pub long : 2 ≤ cycles files.report.base files.report.rows final.tally
  pub in_time : cycles files.report.base files.report.rows final.tally ≤ given.cycles
  pub ready : files.report.init < given.cycles
