-- After how many edges of the clock the run of a compiled program ends.
use Rattle.std.specs.Prelude.{◌≡◌, ℕ, List, Option}
use Rattle.hls_base.specs.FileScope.{FileScope}
use Rattle.hls_base.specs.declared.inputs.Inputs.{Inputs}
use Rattle.hls_base.specs.declared.settings.Settings.{Settings}
use Rattle.cycle_report.specs.PlainReport.{PlainLoop}
use Rattle.pieces.specs.Program.{ExpandedTree}
use Rattle.ir_core.specs.declared.cfg.Cfg.{Cfg}
use Rattle.ir_core.specs.declared.stamp.Untimed.{Untimed}
use Rattle.ir_core.specs.declared.timed.Timed.{Timed}
use Rattle.ir_core.specs.FirstContents.{first_words}
use Rattle.ir_lower.specs.Frames.{frame_view}
use Rattle.compile_steps.specs.Flat.{passes_of, IsFlatOf}
use Rattle.compile_steps.specs.Resets.{expanded_frame}
use Rattle.compile_steps.specs.Reports.{allowed_units, IsTimed}
use Rattle.source_answers.specs.Laws.{EndsWith}

-- From the words that these inputs give, the clocked run ends after so many edges, and not before, with this result and these elements.
abbrev pub EndsAfter : ExpandedTree → Cfg Timed → Inputs → ℕ → Option ℕ → List (List ℕ) → Type 0
EndsAfter e timed inputs edges result arrays = (kept : FileScope) × EndsWith e timed (first_words timed.frame inputs) edges result arrays kept

-- The expanded program is compiled with these settings to one whose clocked run from these inputs ends after so many edges, with this result and these elements.
pub record IsClockOf (e : ExpandedTree) (settings : Settings) (inputs : Inputs) (result : Option ℕ) (arrays : List (List ℕ)) (edges : ℕ) : Type 0 where
  pub untimed : Cfg Untimed
  pub timed : Cfg Timed
  pub rows : List PlainLoop
  pub flat : IsFlatOf e (passes_of settings) untimed
  pub is_timed : IsTimed (allowed_units settings) untimed timed rows
  pub frame : frame_view timed.frame ≡ expanded_frame e
  pub ends : EndsAfter e timed inputs edges result arrays
