-- From the run in C to the clocked run.
use Rattle.std.proofs.Common.{◌≡◌, ◌∙◌, ◌+◌, ◌<◌, ℕ, List, [], refl, ap, sym, subst, Option, Some}
use Rattle.hls_base.specs.FileScope.{FileScope}
use Rattle.hls_base.specs.declared.point.Point.{Point}
use Rattle.hls_base.specs.declared.settings.Units.{Units}
use Rattle.c_tree.specs.Terminals.{terminals}
use Rattle.c_tree.specs.Tree.{ProgramTree}
use Rattle.c_meaning.specs.Run.{Answer, ended, undefined, running, c_run}
use Rattle.c_elaborate.specs.Programs.{program_elaborated}
use Rattle.pieces.specs.Program.{ExpandedTree}
use Rattle.hls_base.specs.Steps as steps
use Rattle.hls_base.specs.Steps.{Outcome, Ran, ran, went, waiting}
use Rattle.c_meaning.specs.PieceRuns.Values.{Store}
use Rattle.c_meaning.specs.PieceRuns.Pieces.{Way, pieces_run}
use Rattle.c_meaning.specs.PieceRuns.Runs.{frame_of, started, answer_of, answer, pieces_answer, result_word, host_arrays, kept_of}
use Rattle.expand_runs.specs.Laws.{IsDefined}
use Rattle.expand_runs.specs.Reading.{IsTyped}
use Rattle.expanded_programs.specs.ElaboratedPrograms.Inputs.{ProgramInputsFit}
use Rattle.expanded_programs.proofs.ElaboratedPrograms.Whole.{checked_kept}
use Rattle.expanded_programs.proofs.ElaboratedPrograms.Tokens.{numbers_fit}
use Rattle.ir_core.specs.declared.cfg.Cfg.{Cfg}
use Rattle.ir_core.specs.declared.stamp.Untimed.{Untimed}
use Rattle.ir_core.specs.declared.timed.Timed.{Timed}
use Rattle.cycle_report.specs.PlainReport.{PlainLoop}
use Rattle.ir_core.specs.Bodies.{Words}
use Rattle.timed_pieces.specs.FlatRuns.{Choice, IsFine, IsLaidOut}
use Rattle.expanded_pieces.specs.BegunPieces.Points.{begins_at}
use Rattle.source_answers.proofs.SourceRuns.SourceTypes.Whole.{sources_fine}
use Rattle.source_answers.proofs.SourceRuns.ElaboratedSubscripts.Programs.{checked_fit}
use Rattle.timed_pieces.specs.Laws.{HasTimes, ClockKeepsRun, node_count}
use Rattle.clock_ir.specs.ClockRuns.{timed_program, clock_run}
use Rattle.clock_runs.specs.Laws.{IsEnded, run_cycles}
use Rattle.pass_runs.specs.ConvertRuns.Typed.{Fits}
use Rattle.pass_runs.specs.ConvertRuns.LoweredConversions.Suiting as typing
use Rattle.pass_runs.specs.LowerRuns.Suits.{scope_of}
use Rattle.pass_runs.specs.LowerRuns.Holding.{Holds, none_hidden}
use Rattle.sound_trees.specs.Subscripts.{PiecesSubscriptsFit}
use Rattle.timed_pieces.proofs.SoundPrograms.Whole as scheduled
use Rattle.source_answers.specs.SourceRuns.{IsFaultless, expanded, EndsAs, RunsAs, SourceProgramsKeepRuns}

-- ---- what an answer says of the pieces' run

-- a run that ends
pub record Ends (e : ExpandedTree) (trace : List Point) (o : Outcome Store Way) (result : Option ℕ) (arrays : List (List ℕ)) (kept : FileScope) (passed : List Point) : Type 0 where
  pub way : Way
  pub store : Store
  pub left : ℕ
  pub at : o ≡ went way store left
  pub result_is : result_word e e.ret e.result store ≡ result
  pub arrays_are : host_arrays e.arrays 0 store ≡ arrays
  pub kept_is : kept_of e store ≡ kept
  pub trace_is : trace ≡ passed

pub ends_as : (e : ExpandedTree) (trace : List Point) (o : Outcome Store Way) (result : Option ℕ) (arrays : List (List ℕ)) (kept : FileScope) (passed : List Point)
    → answer_of e trace o ≡ ended result arrays kept passed → Ends e trace o result arrays kept passed
ends_as e trace (steps.went w t n) result arrays kept passed h =
    record { way = w; store = t; left = n; at = refl; result_is = cc; arrays_are = cc; kept_is = cc; trace_is = cc }
ends_as e trace (steps.undefined rule at) result arrays kept passed h = absurd (cc)
ends_as e trace steps.waiting result arrays kept passed h = absurd (cc)

-- a run that waits
pub waits_as : (e : ExpandedTree) (trace : List Point) (o : Outcome Store Way) → answer_of e trace o ≡ running → o ≡ waiting
waits_as e trace (steps.went w t n) h = absurd (cc)
waits_as e trace (steps.undefined rule at) h = absurd (cc)
waits_as e trace steps.waiting h = refl

pub ended_defined : (a : Answer) (result : Option ℕ) (arrays : List (List ℕ)) (kept : FileScope) (passed : List Point) → a ≡ ended result arrays kept passed → IsDefined a
ended_defined a result arrays kept passed h = subst IsDefined (sym h) tt

pub running_defined : (a : Answer) → a ≡ running → IsDefined a
running_defined a h = subst IsDefined (sym h) tt

-- ---- the whole

-- each run in C of such a program is one of its pieces
pub same_answer : (source : List ℕ) (p : ProgramTree) (top : ℕ) (name : List ℕ) (s : IsFaultless source p top name) (first : Store) (kept : FileScope) (scalars : List ℕ) (arrays : List (List ℕ)) (n : ℕ)
    → IsTyped (frame_of (expanded p top)) first → ProgramInputsFit p top kept scalars arrays → IsDefined (c_run p top kept scalars arrays n)
    → pieces_answer (expanded p top) first kept scalars arrays n ≡ c_run p top kept scalars arrays n
same_answer source p top name s =
    checked_kept (terminals s.replaced) s.end p top name (numbers_fit source s.tokens s.replaced s.spelled s.becomes) s.derives s.named s.faultless

pub runs_as : (source : List ℕ) (p : ProgramTree) (top : ℕ) (name : List ℕ) (s : IsFaultless source p top name) (start : Point)
    → IsFine (frame_of (expanded p top)) (begins_at (expanded p top).pieces) (expanded p top).pieces start → PiecesSubscriptsFit (expanded p top).arrays (expanded p top).pieces
    → (choice : Choice) (cfg : Cfg Untimed) → IsLaidOut (frame_of (expanded p top)) choice (expanded p top).pieces start (expanded p top).result cfg
    → (units : Units) (timed : Cfg Timed) (rows : List PlainLoop) → HasTimes units cfg timed rows
    → (first : Store) (kept : FileScope) (scalars : List ℕ) (arrays : List (List ℕ)) (t : Words) → IsTyped (frame_of (expanded p top)) first → ProgramInputsFit p top kept scalars arrays
    → Holds (frame_of (expanded p top)) none_hidden (started (expanded p top) first kept scalars arrays) t → Fits (typing.widths_of (scope_of (frame_of (expanded p top)))) (typing.words_of (scope_of (frame_of (expanded p top)))) t
    → RunsAs p top choice start cfg timed kept scalars arrays t
runs_as source p top name s start fine subscripts choice cfg laid units timed rows times first kept scalars arrays t typed fit holds fits = record { finite = finite; endless = endless } where
  e : ExpandedTree
  e = expanded p top

  clocked : ClockKeepsRun (frame_of e) choice (begins_at e.pieces) e.pieces start e.result cfg timed (started e first kept scalars arrays) t
  clocked = scheduled.kept_runs (frame_of e) choice (begins_at e.pieces) e.pieces start e.result cfg fine subscripts laid units timed rows times (started e first kept scalars arrays) t holds fits

  piece_run : ℕ → Ran Store Way
  piece_run n = pieces_run (frame_of e) e.pieces (started e first kept scalars arrays) n

  finite : (n : ℕ) (result : Option ℕ) (last : List (List ℕ)) (left : FileScope) (trace : List Point) → c_run p top kept scalars arrays n ≡ ended result last left trace
      → EndsAs e timed t (1 + run_cycles cfg timed t (node_count (frame_of e) choice (begins_at e.pieces) e.pieces start trace)) result last left
  finite n result last left trace h =
      let same = same_answer source p top name s first kept scalars arrays n typed fit (ended_defined (c_run p top kept scalars arrays n) result last left trace h) in
      let x = ends_as e (piece_run n).trace (piece_run n).outcome result last left trace (same ∙ h) in
      let run : pieces_run (frame_of e) e.pieces (started e first kept scalars arrays) n ≡ ran trace (went x.way x.store x.left) = ap (λ tr. ran tr (piece_run n).outcome) x.trace_is ∙ ap (λ o. ran trace o) x.at in
      let y = clocked.finite n x.left trace x.way x.store run in
      record { word = y.0; words = y.1; store = x.store; way = x.way; run = y.3; sooner = y.4; done = y.2; result_is = x.result_is; arrays_are = x.arrays_are; kept_is = x.kept_is }

  endless : ((n : ℕ) → c_run p top kept scalars arrays n ≡ running) → (m : ℕ) → IsEnded (clock_run (timed_program timed) t m) → ⊥
  endless w m = clocked.endless (λ n.
      let same = same_answer source p top name s first kept scalars arrays n typed fit (running_defined (c_run p top kept scalars arrays n) (w n)) in
      waits_as e (piece_run n).trace (piece_run n).outcome (same ∙ w n)) m

pub kept_runs : SourceProgramsKeepRuns
kept_runs source p top name s =
    let fine = sources_fine source s.tokens s.replaced s.end p top name s.spelled s.becomes s.derives s.named s.faultless in
    let numbers = numbers_fit source s.tokens s.replaced s.spelled s.becomes in
    (fine.0, runs_as source p top name s fine.0 fine.1 (checked_fit (terminals s.replaced) s.end p top name numbers s.derives s.named s.faultless))
