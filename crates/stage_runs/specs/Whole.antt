-- The programs of the stages of a source name what is there.
use Rattle.std.specs.Prelude.{ℕ, Bool, List}
use Rattle.c_tree.specs.Tree.{ProgramTree}
use Rattle.c_elaborate.specs.Programs.{program_elaborated}
use Rattle.c_expand.specs.Expansion.{expansion}
use Rattle.pieces.specs.Program.{ExpandedTree}
use Rattle.ir_core.specs.declared.cfg.Cfg.{Cfg}
use Rattle.ir_core.specs.declared.stamp.Untimed.{Untimed}
use Rattle.flat_programs.specs.Machine.Rest.{IsWhole}
use Rattle.source_answers.specs.SourceRuns.{IsFaultless}
use Rattle.stage_runs.specs.declared.stage.StageName.{StageName}
use Rattle.stage_runs.specs.Stages.{IsStageOf}

-- each flat program of a stage sets variables and takes memories that it has
abbrev pub HasWholeStages : ExpandedTree → Type 0
HasWholeStages e = (plain : Bool) (name : StageName) (cfg : Cfg Untimed) → IsStageOf e plain name cfg → IsWhole cfg

-- so it is for each source without faults
abbrev pub SourcesHaveWholeStages : Type 0
SourcesHaveWholeStages = (source : List ℕ) (p : ProgramTree) (top : ℕ) (name : List ℕ) → IsFaultless source p top name → HasWholeStages (expansion (program_elaborated p top))
