-- How the machines of compiled programs end.
use Rattle.std.specs.Prelude.{◌≡◌, ◌≤◌, ◌<◌, ◌^◌, ℕ, true, Bool, List, Option, Some, slice_get}
use Rattle.hls_base.specs.FileScope.{FileScope}
use Rattle.hls_base.specs.declared.inputs.Inputs.{Inputs}
use Rattle.hls_base.specs.declared.point.Point.{Point}
use Rattle.hls_base.specs.declared.settings.Units.{Units}
use Rattle.c_tree.specs.Tree.{FunctionTree, ProgramTree}
use Rattle.c_meaning.specs.FittingInputs.{inputs_fit}
use Rattle.c_meaning.specs.Run.{c_run, ended, function_at, first_contents}
use Rattle.c_elaborate.specs.Programs.{program_elaborated}
use Rattle.c_expand.specs.Expansion.{expanded_weight}
use Rattle.pieces.specs.declared.expanded.Expanded.{Expanded}
use Rattle.pieces.specs.Program.{ExpandedTree, expanded_of}
use Rattle.ir_core.specs.declared.cfg.Cfg.{Cfg}
use Rattle.ir_core.specs.declared.stamp.Untimed.{Untimed}
use Rattle.ir_lower.specs.Frames.{frame_view}
use Rattle.ir_core.specs.declared.timed.Timed.{Timed}
use Rattle.cycle_report.specs.PlainReport.{PlainLoop}
use Rattle.ir_core.specs.Bodies.{Words}
use Rattle.ir_core.specs.FirstContents.{first_words}
use Rattle.ir_core.specs.FlatRuns.{flat_run}
use Rattle.flat_programs.specs.Machine.Rest.{IsWhole, EndsSo}
use Rattle.flat_programs.specs.Machine.Nearing.{whole_run_steps}
use Rattle.clock_machine.specs.Starts.{IsNamed}
use Rattle.compile_steps.specs.Flat.{Passes, IsFlatOf}
use Rattle.compile_steps.specs.Resets.{expanded_frame}
use Rattle.compile_steps.specs.Reports.{IsTimed}
use Rattle.timed_pieces.specs.StartedWords.Contents.{host_words}
use Rattle.source_answers.specs.SourceRuns.{IsFaultless, expanded}
use Rattle.source_answers.specs.Laws.{EndsWith}
use Rattle.source_validity.specs.SourceMachines.WholePrograms.{IsReady}

-- the most points of a run whose machines are known to end in time
abbrev pub most_points : ℕ
most_points = 1000000000

-- From the first contents of file scope and these inputs, which fit, the run in C ends within so many points, with this result and these elements.
pub record EndsInC (p : ProgramTree) (top : ℕ) (inputs : Inputs) (result : Option ℕ) (arrays : List (List ℕ)) : Type 0 where
  pub function : FunctionTree
  pub item : function_at (slice_get p.items top) ≡ Some function
  pub fit : inputs_fit function.params inputs.scalars inputs.arrays ≡ true
  pub points : ℕ
  pub few : points ≤ most_points
  pub kept : FileScope
  pub trace : List Point
  pub ends : c_run p top (first_contents p) inputs.scalars inputs.arrays points ≡ ended result arrays kept trace

-- ---- block by block

-- From the words that these inputs give, the run of the flat program ends with this result and these elements in the memories that the host reaches. The program names what is there, and fewer than 2^64 steps are enough for its run.
pub record EndsInSteps (e : ExpandedTree) (cfg : Cfg Untimed) (inputs : Inputs) (result : Option ℕ) (arrays : List (List ℕ)) : Type 0 where
  pub whole : IsWhole cfg
  pub points : ℕ
  pub few : whole_run_steps cfg points < 2 ^ 64
  pub words : Words
  pub ends : EndsSo (flat_run cfg (first_words cfg.frame inputs) points) result words
  pub hosts : host_words e.arrays 0 words.memories ≡ arrays

-- Of each source without faults that weighs at most 8,192 once its calls are expanded, and of what the compiler expands it to: so ends the run of its flat program, where its run in C ends.
abbrev pub FlatRunsEndInTime : Type 0
FlatRunsEndInTime = (source : List ℕ) (p : ProgramTree) (top : ℕ) (name : List ℕ) → IsFaultless source p top name → expanded_weight (program_elaborated p top) ≤ 8192
    → (x : Expanded) → expanded_of x ≡ expanded p top → (passes : Passes) (cfg : Cfg Untimed) → IsFlatOf (expanded p top) passes cfg → frame_view cfg.frame ≡ expanded_frame (expanded p top)
    → (inputs : Inputs) (result : Option ℕ) (arrays : List (List ℕ)) → EndsInC p top inputs result arrays → EndsInSteps (expanded p top) cfg inputs result arrays

-- ---- cycle by cycle

-- From the words that these inputs give, the clocked run ends after fewer than 2^64 edges, and not before, with this result and these elements. The program has what a machine takes for granted.
pub record EndsInEdges (e : ExpandedTree) (timed : Cfg Timed) (inputs : Inputs) (result : Option ℕ) (arrays : List (List ℕ)) : Type 0 where
  pub ready : IsReady timed
  pub named : IsNamed timed.frame
  pub edges : ℕ
  pub few : edges < 2 ^ 64
  pub kept : FileScope
  pub ends : EndsWith e timed (first_words timed.frame inputs) edges result arrays kept

-- So ends the clocked run of this flat program with its times, on any units.
abbrev pub ClockedRunsEndInTime : Type 0
ClockedRunsEndInTime = (source : List ℕ) (p : ProgramTree) (top : ℕ) (name : List ℕ) → IsFaultless source p top name → expanded_weight (program_elaborated p top) ≤ 8192
    → (x : Expanded) → expanded_of x ≡ expanded p top → (passes : Passes) (cfg : Cfg Untimed) → IsFlatOf (expanded p top) passes cfg
    → (units : Units) (timed : Cfg Timed) (loops : List PlainLoop) → IsTimed units cfg timed loops → frame_view timed.frame ≡ expanded_frame (expanded p top)
    → (inputs : Inputs) (result : Option ℕ) (arrays : List (List ℕ)) → EndsInC p top inputs result arrays → EndsInEdges (expanded p top) timed inputs result arrays
