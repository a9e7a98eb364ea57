-- When the clocked run of a compiled program ends, within the edges that a machine counts.
use Rattle.std.specs.Prelude.{◌≡◌, ◌≤◌, ℕ, List, Option}
use Rattle.hls_base.specs.declared.inputs.Inputs.{Inputs}
use Rattle.hls_base.specs.declared.settings.Settings.{Settings}
use Rattle.c_tree.specs.Tree.{ProgramTree}
use Rattle.c_meaning.specs.declared.outcome.Final.{Final}
use Rattle.c_elaborate.specs.Programs.{program_elaborated}
use Rattle.c_expand.specs.Expansion.{expansion, expanded_weight}
use Rattle.cycle_report.specs.PlainReport.{PlainLoop}
use Rattle.pieces.specs.Program.{ExpandedTree}
use Rattle.ir_core.specs.declared.cfg.Cfg.{Cfg}
use Rattle.ir_core.specs.declared.stamp.Untimed.{Untimed}
use Rattle.ir_lower.specs.Frames.{frame_view}
use Rattle.ir_core.specs.declared.timed.Timed.{Timed}
use Rattle.compile_steps.specs.Flat.{passes_of, IsFlatOf}
use Rattle.compile_steps.specs.Resets.{expanded_frame}
use Rattle.compile_steps.specs.Reports.{allowed_units, IsTimed}
use Rattle.source_answers.specs.SourceRuns.{IsFaultless}
use Rattle.promises.specs.EndedMachines.{EndsInC, EndsInEdges}

-- The expanded program is compiled with these settings to this one, with these times.
pub record IsCompiledTo (e : ExpandedTree) (settings : Settings) (untimed : Cfg Untimed) (timed : Cfg Timed) : Type 0 where
  pub rows : List PlainLoop
  pub flat : IsFlatOf e (passes_of settings) untimed
  pub is_timed : IsTimed (allowed_units settings) untimed timed rows
  pub frame : frame_view timed.frame ≡ expanded_frame e

-- ---- runs that end

-- The clocked run of the program from these inputs ends, within the edges that a machine counts.
abbrev pub EndsInTime : Cfg Timed → Inputs → Type 0
EndsInTime timed inputs = (e : ExpandedTree) × (result : Option ℕ) × (arrays : List (List ℕ)) × EndsInEdges e timed inputs result arrays

-- so it does wherever the run in C of this program ends
abbrev pub RunsEndInTime : ProgramTree → ℕ → Cfg Timed → Type 0
RunsEndInTime p index timed = (inputs : Inputs) (result : Option ℕ) (arrays : List (List ℕ)) → EndsInC p index inputs result arrays → EndsInEdges (expansion (program_elaborated p index)) timed inputs result arrays

-- The expanded program is that of a source without faults, which is not too large, and whose run in C from these inputs ended so.
pub record HasEnded (e : ExpandedTree) (inputs : Inputs) (final : Final) : Type 0 where
  pub source : List ℕ
  pub name : List ℕ
  pub program : ProgramTree
  pub index : ℕ
  pub faultless : IsFaultless source program index name
  pub within : expanded_weight (program_elaborated program index) ≤ 8192
  pub is : e ≡ expansion (program_elaborated program index)
  pub ends : EndsInC program index inputs final.ret final.arrays
