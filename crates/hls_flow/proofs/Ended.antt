-- The clocked runs of compiled programs end where the runs in C do.
use Rattle.std.proofs.Common.{◌≡◌, ◌≤◌, ◌∙◌, ℕ, true, List, Option, Some, ap, sym, subst, inl, inr, slice_get, arith}
use Rattle.std.proofs.lemmas.Bool.{cases_lt}
use Rattle.hls_base.specs.declared.inputs.Inputs.{Inputs}
use Rattle.hls_base.specs.declared.settings.Settings.{Settings}
use Rattle.c_tree.specs.Tree.{FunctionTree, ProgramTree}
use Rattle.c_meaning.specs.declared.outcome.Final.{Final}
use Rattle.c_meaning.specs.FittingInputs.{inputs_fit}
use Rattle.c_meaning.specs.Run.{c_run, function_at, first_contents}
use Rattle.c_elaborate.specs.Programs.{program_elaborated}
use Rattle.c_expand.specs.Expansion.{expansion, expanded_weight}
use Rattle.pieces.specs.declared.expanded.Expanded.{Expanded}
use Rattle.pieces.specs.Program.{ExpandedTree, expanded_of}
use Rattle.ir_core.specs.declared.cfg.Cfg.{Cfg}
use Rattle.ir_core.specs.declared.stamp.Untimed.{Untimed}
use Rattle.ir_core.specs.declared.timed.Timed.{Timed}
use Rattle.compile_steps.specs.Flat.{passes_of, IsFlatOf}
use Rattle.compile_steps.specs.Resets.{expanded_frame}
use Rattle.compile_steps.specs.Reports.{allowed_units}
use Rattle.source_answers.specs.SourceRuns.{IsFaultless}
use Rattle.cosim_levels.specs.Levels.{EndsWith}
use Rattle.ir_core.specs.Bodies.{Words}
use Rattle.ir_core.specs.FirstContents.{first_words}
use Rattle.clock_ir.specs.ClockRuns.{timed_program}
use Rattle.clock_runs.specs.Laws.{IsEnded}
use Rattle.clock_machine.specs.Runs.{RunEndsAfter}
use Rattle.promises.specs.EndedMachines.{EndsInC, EndsInEdges, ClockedRunsEndInTime}
use Rattle.hls_flow.specs.Clocked.{EndsAfter}
use Rattle.hls_flow.specs.Ending.{IsCompiledTo, EndsInTime, RunsEndInTime, HasEnded}

pub runs_end : ClockedRunsEndInTime → (source : List ℕ) (p : ProgramTree) (index : ℕ) (name : List ℕ) → IsFaultless source p index name → expanded_weight (program_elaborated p index) ≤ 8192
    → (x : Expanded) → expanded_of x ≡ expansion (program_elaborated p index) → (settings : Settings) (untimed : Cfg Untimed) (timed : Cfg Timed) → IsCompiledTo (expanded_of x) settings untimed timed → RunsEndInTime p index timed
runs_end law source p index name faultless within x is settings untimed timed made inputs result arrays ends =
    law source p index name faultless within x is (passes_of settings) untimed (subst (λ (e : ExpandedTree). IsFlatOf e (passes_of settings) untimed) is made.flat) (allowed_units settings) timed made.rows made.is_timed (made.frame ∙ ap expanded_frame is)
    inputs result arrays ends

-- the run in C that ended
pub ends_in_c : (p : ProgramTree) (index : ℕ) (f : FunctionTree) (inputs : Inputs) (points : ℕ) (final : Final) → function_at (slice_get p.items index) ≡ Some f → inputs_fit f.params inputs.scalars inputs.arrays ≡ true → points ≤ 1000000000
    → EndsWith (c_run p index (first_contents p) inputs.scalars inputs.arrays points) final → EndsInC p index inputs final.ret final.arrays
ends_in_c p index f inputs points final item fit few ends = record { function = f; item = item; fit = fit; points = points; few = few; kept = ends.kept; trace = ends.trace; ends = ends.is }

-- the clocked run of what its program is compiled to
pub ended_in_edges : ClockedRunsEndInTime → (x : Expanded) (inputs : Inputs) (final : Final) → HasEnded (expanded_of x) inputs final → (settings : Settings) (untimed : Cfg Untimed) (timed : Cfg Timed) → IsCompiledTo (expanded_of x) settings untimed timed
    → EndsInEdges (expanded_of x) timed inputs final.ret final.arrays
ended_in_edges law x inputs final h settings untimed timed made =
    subst (λ (e : ExpandedTree). EndsInEdges e timed inputs final.ret final.arrays) (sym h.is)
    (runs_end law h.source h.program h.index h.name h.faultless h.within x h.is settings untimed timed made inputs final.ret final.arrays h.ends)

pub ended_in_time : ClockedRunsEndInTime → (x : Expanded) (inputs : Inputs) (final : Final) → HasEnded (expanded_of x) inputs final → (settings : Settings) (untimed : Cfg Untimed) (timed : Cfg Timed) → IsCompiledTo (expanded_of x) settings untimed timed → EndsInTime timed inputs
ended_in_time law x inputs final h settings untimed timed made =
    (expanded_of x, final.ret, final.arrays, ended_in_edges law x inputs final h settings untimed timed made)

-- The end of a run comes once.
pub ends_at : (e : ExpandedTree) (timed : Cfg Timed) (inputs : Inputs) (value : Option ℕ) (arrays : List (List ℕ)) (edges : ℕ) (word : Option ℕ) (last : Words) → RunEndsAfter (timed_program timed) (first_words timed.frame inputs) edges word last
    → EndsInEdges e timed inputs value arrays → EndsAfter e timed inputs edges value arrays
ends_at e timed inputs value arrays edges word last run h =
    elim (cases_lt edges h.edges) [
      | inl sooner ↦ absurd (h.ends.sooner edges sooner (subst IsEnded (sym run.end) tt))
      | inr up ↦
          elim (cases_lt h.edges edges) [
            | inl later ↦ absurd (run.sooner h.edges later value h.ends.words h.ends.run)
            | inr down ↦ (let same : h.edges ≡ edges = omega (arith, up, down) in subst (λ (n : ℕ). EndsAfter e timed inputs n value arrays) same (h.kept, h.ends))
          ]
    ]
