-- Compiled stages that are linked: the chain of the runs in C.
use Rattle.std.specs.Prelude.{◌≡◌, ℕ, List, [], ◌∷◌, Option, None, Some}
use Rattle.hls_base.specs.declared.settings.Settings.{Settings}
use Rattle.c_tree.specs.Tree.{ProgramTree}
use Rattle.c_meaning.specs.Points.{tally_of}
use Rattle.c_meaning.specs.Run as c
use Rattle.c_meaning.specs.Run.{c_run, first_contents}
use Rattle.cycle_report.specs.PlainReport.{PlainReport}
use Rattle.cycle_report.specs.FormulaValue.{cycles}
use Rattle.rtl_core.specs.Netlist.{Netlist}
use Rattle.rtl_core.specs.Box.{Answer, Ended, Undefined}
use Rattle.cosim_levels.specs.Pins.FunctionPins as function
use Rattle.chain_box.specs.StageBoxes.{Numbered, StageBox, stage_interface}
use Rattle.chain_box.specs.Chains.{ComeTo}
use Rattle.chain_box.specs.Agreement.{AgreesWithChain, Composes}
use Rattle.chain_link.specs.Laws.{IsLinked}
use Rattle.hls_flow.specs.Synthesis.{IsSynthesis}

-- what a run in C with a result has come to: it ended, in the cycles of the report's formula, or it is undefined
abbrev pub run_answer : PlainReport → c.Answer → Option Answer
run_answer report (c.ended None elements left trace) = None
run_answer report (c.ended (Some x) elements left trace) = Some (Ended (cycles report.base report.rows (tally_of trace)) (Some x) elements left)
run_answer report (c.undefined rule at) = Some Undefined
run_answer report c.running = None

-- the answers to starts of a function with a result: number n is what its run in C has come to after n points
abbrev pub run_answers : ProgramTree → ℕ → PlainReport → Numbered
run_answers program top report kept arguments arrays n = run_answer report (c_run program top kept arguments arrays n)

-- The circuit is that of a synthesis, and the box is that of the runs in C of its function, which has one scalar parameter and a result.
pub record IsCompiledStage (d : Netlist) (b : StageBox) : Type 0 where
  pub source : List ℕ
  pub settings : Settings
  pub module_bytes : List ℕ
  pub report_bytes : List ℕ
  pub made : IsSynthesis source settings module_bytes report_bytes
  pub circuit : d ≡ made.texts.design
  pub pins : function.interface_of made.accepted.function ≡ stage_interface b.argument b.result
  pub init : b.init ≡ made.texts.report.init
  pub file_scope : b.file_scope ≡ first_contents made.accepted.program
  pub answers : b.answers ≡ run_answers made.accepted.program made.accepted.index made.texts.report

abbrev pub AreCompiledStages : List Netlist → List StageBox → Type 0
AreCompiledStages [] [] = Unit {0}
AreCompiledStages [] (b ∷ boxes) = ⊥
AreCompiledStages (d ∷ ds) [] = ⊥
AreCompiledStages (d ∷ ds) (b ∷ boxes) = IsCompiledStage d b × AreCompiledStages ds boxes

-- A circuit that links compiled stages agrees with the chain of their runs in C. If moreover no result depends on variables at file scope, the items taken out are the composed results of these runs for the items put in, in order, each once, as long as no run is undefined.
abbrev pub CompiledStagesCompose : Type 0
CompiledStagesCompose = (ds : List Netlist) (boxes : List StageBox) (depth : ℕ) (chain : Netlist) → AreCompiledStages ds boxes → IsLinked ds depth chain
    → AgreesWithChain chain depth boxes × ((results : List (ℕ → Option ℕ)) → ComeTo boxes results → Composes chain depth boxes results)
