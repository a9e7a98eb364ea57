-- Comparisons of modules that agree with their programs.
use Rattle.std.specs.Prelude.{◌≡◌, ◌≤◌, ℕ, List}
use Rattle.c_meaning.specs.declared.outcome.Final.{Final}
use Rattle.c_meaning.specs.Run.{first_contents}
use Rattle.cosim_levels.specs.CAnswers.{c_answers}
use Rattle.cycle_report.specs.FormulaValue.{cycles}
use Rattle.rtl_core.specs.Netlist.{Netlist}
use Rattle.rtl_core.specs.ModuleText.{IsModuleText}
use Rattle.rtl_core.specs.Agreement.{Agrees}
use Rattle.cosim_levels.specs.Pins.FunctionPins.{interface_of}
use Rattle.cosim_levels.specs.declared.verdict.Difference.{Difference}
use Rattle.cosim_levels.specs.Levels.{EndsWith}
use Rattle.cosim_levels.specs.Verdicts.{PlainVerdict, agree, differ}
use Rattle.hls_flow.specs.FirstFault.{IsAccepted}
use Rattle.hls_flow.specs.Verdicts.{Files, AreFiles, run_in_c, IsVerdict}
use Rattle.hls_flow.specs.Agreeing.{AgreesInTime}
use Rattle.hls_flow.specs.declared.verdict.CosimInputs.{CosimInputs}

-- The circuit that the module's text is agrees with the box of the function, in the cycles of the report, and a run that ends takes at least two.
pub record FilesAgree (given : CosimInputs) (accepted : IsAccepted given.source given.top) (files : Files) : Type 0 where
  pub agrees : Agrees files.circuit (interface_of accepted.function) files.report.init (first_contents accepted.program) (c_answers accepted.program accepted.index files.report)
  pub long : (final : Final) → EndsWith (run_in_c given accepted.program accepted.index files) final → 2 ≤ cycles files.report.base files.report.rows final.tally

-- Where the files agree with the source, the verdict names no difference.
abbrev pub AgreedModulesNeverDiffer : Type 0
AgreedModulesNeverDiffer = (given : CosimInputs) (verdict : PlainVerdict) (is : IsVerdict given verdict)
    → ((files : Files) → AreFiles given is.accepted.function files → FilesAgree given is.accepted files) → (difference : Difference) → ¬ (verdict ≡ differ difference)

-- Bytes are the text of one circuit at most.
abbrev pub TextsHaveOneCircuit : Type 0
TextsHaveOneCircuit = (bytes : List ℕ) (d e : Netlist) → IsModuleText bytes d → IsModuleText bytes e → d ≡ e

-- the levels agree
abbrev pub SaysAgree : PlainVerdict → Type 0
SaysAgree (agree result arrays cycles clock) = Unit {0}
SaysAgree other = ⊥

-- The verdict on files that agree with their source, of a run that ends in time, is that the levels agree.
abbrev pub AgreementIsFound : Type 0
AgreementIsFound = (given : CosimInputs) (accepted : IsAccepted given.source given.top) → AgreesInTime given accepted → (verdict : PlainVerdict) → IsVerdict given verdict → SaysAgree verdict
