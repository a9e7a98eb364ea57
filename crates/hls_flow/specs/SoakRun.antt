-- What the levels of a made program come to.
use Rattle.std.specs.Prelude.{◌≡◌, ℕ, ◌≤◌, false, List, [], ◌∷◌, codes, slice_get, Some, None}
use Rattle.hls_base.specs.declared.settings.Settings.{Settings}
use Rattle.c_tree.specs.Tree.{FunctionTree, ProgramTree}
use Rattle.c_meaning.specs.Checks.Programs.{program_faults, top_name}
use Rattle.c_meaning.specs.declared.outcome.Final.{Final}
use Rattle.c_meaning.specs.Run.{c_run, function_at, first_contents}
use Rattle.rtl_core.specs.Netlist.{Netlist}
use Rattle.rtl_core.specs.Valid.{IsValid}
use Rattle.cycle_report.specs.PlainReport.{PlainReport}
use Rattle.cycle_report.specs.FormulaValue.{cycles}
use Rattle.cosim_levels.specs.declared.pins.drive.Shown.{Shown}
use Rattle.cosim_levels.specs.Pins.FunctionPins.{interface_of}
use Rattle.cosim_levels.specs.Pins.ModuleRun.{module_run}
use Rattle.cosim_levels.specs.Comparison.{first_difference}
use Rattle.cosim_levels.specs.Levels.{EndsWith}
use Rattle.cosim_levels.specs.SoakProgram.{program_text, elements, argument, count_products}
use Rattle.checked_source.specs.Sources.{IsTheProgramOf}
use Rattle.c_elaborate.specs.Programs.{program_elaborated}
use Rattle.c_expand.specs.Expansion.{expansion, expanded_weight}
use Rattle.compile_steps.specs.LongRuns.{RunsAreLong}
use Rattle.promises.specs.DesignPromise.Promise.{KeepsPromise}
use Rattle.hls_flow.specs.FirstFault.{IsAccepted, expansion_of}
use Rattle.hls_flow.specs.Synthesis.{IsScheduledReport}
use Rattle.hls_flow.specs.declared.soak.Summary.{Summary}

-- the most points of a run, and the most cycles of a wait
abbrev pub most : ℕ
most = 1000000

abbrev pub soak_settings : Settings
soak_settings = record { top = codes "f"; mul = 1; div = 1; ports = 1; plain = false; period = 0 }

-- the source is this program without faults, and is compiled to a valid circuit with this report, which agrees with it
pub record IsCompiled (source : List ℕ) (program : ProgramTree) (index : ℕ) (report : PlainReport) (circuit : Netlist) : Type 0 where
  pub is : IsTheProgramOf source program
  pub faultless : program_faults program (codes "f") ≡ []
  pub named : top_name program index ≡ Some (codes "f")
  pub within : expanded_weight (program_elaborated program index) ≤ 8192
  pub scheduled : IsScheduledReport soak_settings (expansion (program_elaborated program index)) report circuit
  pub valid : IsValid circuit
  pub promise : (f : FunctionTree) → function_at (slice_get program.items index) ≡ Some f → KeepsPromise program index (codes "f") f report circuit

-- The run in C ends so, and the circuit shows its result and its elements after this number of cycles, which the formula of the report gives for it.
pub record IsAgreedRun (program : ProgramTree) (index : ℕ) (f : FunctionTree) (scalars : List ℕ) (arrays : List (List ℕ)) (report : PlainReport) (circuit : Netlist) (final : Final) (count : ℕ) : Type 0 where
  pub ends : EndsWith (c_run program index (first_contents program) scalars arrays most) final
  pub counted : count ≡ cycles report.base report.rows final.tally
  pub shown : Shown
  pub run : module_run circuit (interface_of f) scalars arrays most ≡ Some shown
  pub same : first_difference f final.ret final.arrays count shown ≡ None

-- The program of the number is accepted, its circuit agrees with it, where each run that ends takes at least two cycles, and its levels agree on the run with the inputs of the number. The summary has the lines that multiply, the cycles and the result.
pub record IsSoakRun (number : ℕ) (summary : Summary) : Type 0 where
  pub muls : summary.muls ≡ count_products number 40
  pub accepted : IsAccepted (program_text number) (codes "f")
  pub report : PlainReport
  pub circuit : Netlist
  pub scheduled : IsScheduledReport soak_settings (expansion_of accepted) report circuit
  pub promise : KeepsPromise accepted.program accepted.index (codes "f") accepted.function report circuit
  pub long : RunsAreLong accepted.program accepted.index report
  pub final : Final
  pub agreed : IsAgreedRun accepted.program accepted.index accepted.function (argument number ∷ []) (elements number ∷ []) report circuit final summary.cycles
  pub result : final.ret ≡ Some summary.ret
