-- What the runs of the stages of a source are, and when they agree with its run in C.
use Rattle.std.specs.Prelude.{◌≡◌, ℕ, Bool, List, [], ◌∷◌, length, map, slice_get, Some, true, Result, Err}
use Rattle.std.specs.List.{All}
use Rattle.hls_base.specs.Tallies.{count_in}
use Rattle.hls_base.specs.declared.inputs.Inputs.{Inputs}
use Rattle.hls_base.specs.declared.refusal.Refusal.{Refusal}
use Rattle.c_tree.specs.Tree as tree
use Rattle.c_tree.specs.Tree.{FunctionTree, ProgramTree}
use Rattle.c_meaning.specs.Checks.Programs.{program_faults, top_name}
use Rattle.c_meaning.specs.declared.outcome.Final.{Final}
use Rattle.c_meaning.specs.Run.{c_run, first_contents}
use Rattle.checked_source.specs.Sources.{IsTheProgramOf}
use Rattle.checked_source.specs.SourceFaults.{IsSourceFault}
use Rattle.c_elaborate.specs.Programs.{program_elaborated}
use Rattle.c_expand.specs.Expansion.{expansion, IsOverweight}
use Rattle.pieces.specs.Program.{ExpandedTree}
use Rattle.ir_core.specs.declared.cfg.Cfg.{Cfg}
use Rattle.ir_core.specs.declared.stamp.Untimed.{Untimed}
use Rattle.ir_core.specs.declared.machine.Halt.TheVariants as halt
use Rattle.program_validity.specs.Programs.{is_valid}
use Rattle.cycle_report.specs.FormulaValue.{cycles}
use Rattle.cosim_levels.specs.RunFile.{reading_of, inputs}
use Rattle.cosim_levels.specs.Levels.{EndsWith}
use Rattle.stage_runs.specs.declared.stage.Stage.{Stage}
use Rattle.stage_runs.specs.declared.stage.StageFault.{StageFault}
use Rattle.stage_runs.specs.declared.stage.StageFault.TheVariants as fault
use Rattle.stage_runs.specs.declared.stage.StageInputs.{StageInputs}
use Rattle.stage_runs.specs.declared.stage.StageName.{StageName}
use Rattle.stage_runs.specs.declared.stage.StageName.TheVariants as name
use Rattle.stage_runs.specs.declared.stage.StageRuns.{StageRuns}
use Rattle.stage_runs.specs.Points.{node_points}
use Rattle.stage_runs.specs.Stages.{IsStageOf, IsToldOf, step_costs}

-- ---- the runs

-- A stage of an expanded program is run with these inputs. As many elements are told as were given, and the points of its nodes are counted and weighed as the run in C passes them.
pub record IsStageRun (e : ExpandedTree) (plain : Bool) (given : Inputs) (ended : Final) (stage : Stage) : Type 0 where
  pub cfg : Cfg Untimed
  pub is : IsStageOf e plain stage.name cfg
  pub valid : stage.valid ≡ is_valid cfg
  pub told : IsToldOf cfg given stage
  pub counts : map length stage.arrays ≡ map length given.arrays
  pub tallied : stage.tallied ≡ cycles 0 (step_costs cfg.nodes.items) ended.tally
  pub points : map (λ p. p.point) stage.points.items ≡ node_points cfg.nodes.items
  pub in_c : map (λ p. p.in_c) stage.points.items ≡ map (count_in ended.tally) (node_points cfg.nodes.items)

abbrev pub AreStageRuns : ExpandedTree → Bool → Inputs → Final → List Stage → Type 0
AreStageRuns e plain given ended [] = Unit {0}
AreStageRuns e plain given ended (stage ∷ stages) = IsStageRun e plain given ended stage × AreStageRuns e plain given ended stages

-- the stages in their order
abbrev pub all_names : List StageName
all_names = name.Lowered ∷ name.Numbered ∷ name.Converted ∷ []

-- The source is a program without faults, the run file gives inputs to its top function, its run in C ends, and each stage is run with the same inputs.
pub record AreRunsOf (given : StageInputs) (runs : StageRuns) : Type 0 where
  pub program : ProgramTree
  pub index : ℕ
  pub function : FunctionTree
  pub values : Inputs
  pub is : IsTheProgramOf given.source program
  pub faultless : program_faults program given.top ≡ []
  pub named : top_name program index ≡ Some given.top
  pub top_is : slice_get program.items index ≡ Some (tree.function function)
  pub read : reading_of function.params given.run ≡ inputs values.scalars values.arrays
  pub ends : EndsWith (c_run program index (first_contents program) values.scalars values.arrays given.points) runs.ended
  pub names : map (λ s. s.name) runs.stages.items ≡ all_names
  pub stages : AreStageRuns (expansion (program_elaborated program index)) given.plain values runs.ended runs.stages.items

-- ---- refusals

abbrev pub IfRefusal : {A : Type 0} → Result A StageFault → (Refusal → Type 0) → Type 0
IfRefusal (Err (fault.Refused refusal)) P = P refusal
IfRefusal _ P = Unit {0}

-- The source has this fault as it stands, or is a program without faults that is too large once its calls are expanded.
pub data IsRefusedAs (source top : List ℕ) (refusal : Refusal) : Type 0 where
  of_source : IsSourceFault source top refusal → IsRefusedAs source top refusal
  too_large : (program : ProgramTree) (index : ℕ) → IsTheProgramOf source program → program_faults program top ≡ [] → top_name program index ≡ Some top
      → IsOverweight (program_elaborated program index) refusal → IsRefusedAs source top refusal

-- ---- agreement

-- The program of the stage is valid; it ended with the result and the arrays of the run in C, in as many steps as the points of that run give, and passed the point of each node as often as that run.
pub record Agrees (ended : Final) (stage : Stage) : Type 0 where
  pub valid : stage.valid ≡ true
  pub halts : stage.halt ≡ halt.Ended
  pub result : stage.ret ≡ ended.ret
  pub arrays : stage.arrays ≡ ended.arrays
  pub steps : stage.steps ≡ stage.tallied
  pub points : All (λ p. p.count ≡ p.in_c) stage.points.items
