-- Where a run in C ends, or goes on for ever, the run of the program that is laid out from its source has a meaning.
use Rattle.std.proofs.Common.{◌≡◌, ◌∙◌, ℕ, ◌+◌, ap, filter, length, Bool, List, Option}
use Rattle.hls_base.specs.FileScope.{FileScope}
use Rattle.hls_base.specs.declared.point.Point.{Point}
use Rattle.c_tree.specs.Tree.{ProgramTree}
use Rattle.c_meaning.specs.Run as c
use Rattle.c_meaning.specs.Run.{c_run}
use Rattle.pieces.specs.Program.{ExpandedTree}
use Rattle.hls_base.specs.Steps.{Ran, ran, went, waiting}
use Rattle.c_meaning.specs.PieceRuns.Values.{Store}
use Rattle.c_meaning.specs.PieceRuns.Pieces.{Way, pieces_run}
use Rattle.c_meaning.specs.PieceRuns.Runs.{frame_of, started}
use Rattle.expand_runs.specs.Reading.{IsTyped}
use Rattle.expanded_programs.specs.ElaboratedPrograms.Inputs.{ProgramInputsFit}
use Rattle.ir_core.specs.declared.cfg.Cfg.{Cfg}
use Rattle.ir_core.specs.declared.stamp.Untimed.{Untimed}
use Rattle.ir_core.specs.Bodies.{Words}
use Rattle.ir_core.specs.FlatRuns.{flat_run}
use Rattle.pass_runs.specs.LowerRuns.Holding.{Holds, none_hidden}
use Rattle.timed_pieces.specs.FlatRuns.{Choice, IsFine, IsLaidOut, AreDone, has_node}
use Rattle.timed_pieces.specs.FlatRuns.Runs.{IsRunOf}
use Rattle.timed_pieces.proofs.FlatRuns.Whole.{flat_runs}
use Rattle.expanded_pieces.specs.BegunPieces.Points.{begins_at}
use Rattle.timed_pieces.specs.StartedWords.Contents as words
use Rattle.timed_pieces.proofs.StartedWords.Starting.{started_words_hold}
use Rattle.compile_steps.specs.BegunPrograms.{HasEnds}
use Rattle.circuit_agreement.specs.ApartStores.Apart as apart
use Rattle.circuit_agreement.specs.ApartStores.Apart.{HasMeaning}
use Rattle.source_answers.specs.SourceRuns.{IsFaultless, expanded}
use Rattle.source_answers.proofs.SourceRuns.Whole.{ends_as, ended_defined, waits_as, running_defined, same_answer}
use Rattle.source_answers.specs.Laws.{HaveWidths}

-- the run from these words has a meaning where the run in C has one
pub record HasMeaningAs (p : ProgramTree) (top : ℕ) (cfg : Cfg Untimed) (kept : FileScope) (scalars : List ℕ) (arrays : List (List ℕ)) (t : Words) : Type 0 where
  pub finite : (n : ℕ) (result : Option ℕ) (last : List (List ℕ)) (left : FileScope) (trace : List Point) → c_run p top kept scalars arrays n ≡ c.ended result last left trace → HasMeaning cfg t
  pub endless : ((n : ℕ) → c_run p top kept scalars arrays n ≡ c.running) → HasMeaning cfg t

module _ (source : List ℕ) (p : ProgramTree) (top : ℕ) (name : List ℕ) (s : IsFaultless source p top name) (start : Point) (fine : IsFine (frame_of (expanded p top)) (begins_at (expanded p top).pieces) (expanded p top).pieces start)
    (has : HasEnds (expanded p top)) (choice : Choice) (cfg : Cfg Untimed) (laid : IsLaidOut (frame_of (expanded p top)) choice (expanded p top).pieces start (expanded p top).result cfg)
    (kept : FileScope) (scalars : List ℕ) (arrays : List (List ℕ)) (t : Words) (fit : ProgramInputsFit p top kept scalars arrays) where
  abbrev e : ExpandedTree
  e = expanded p top

  -- which points have nodes
  abbrev stays : Point → Bool
  stays = has_node (frame_of e) choice (begins_at e.pieces) e.pieces start

  module _ (first : Store) (typed : IsTyped (frame_of e) first) (holds : Holds (frame_of e) none_hidden (started e first kept scalars arrays) t) (fits : HaveWidths e t) where
    abbrev piece_run : ℕ → Ran Store Way
    piece_run n = pieces_run (frame_of e) e.pieces (started e first kept scalars arrays) n

    flat : IsRunOf stays (AreDone (frame_of e) e.result) piece_run (λ n. flat_run cfg t n)
    flat = flat_runs (frame_of e) choice (begins_at e.pieces) e.pieces start e.result cfg fine laid (started e first kept scalars arrays) t holds fits

    finite : (n : ℕ) (result : Option ℕ) (last : List (List ℕ)) (left : FileScope) (trace : List Point) → c_run p top kept scalars arrays n ≡ c.ended result last left trace → HasMeaning cfg t
    finite n result last left trace h =
        let same = same_answer source p top name s first kept scalars arrays n typed fit (ended_defined (c_run p top kept scalars arrays n) result last left trace h) in
        let x = ends_as e (piece_run n).trace (piece_run n).outcome result last left trace (same ∙ h) in
        let run : piece_run n ≡ ran trace (went x.way x.store x.left) = ap (λ tr. ran tr (piece_run n).outcome) x.trace_is ∙ ap (λ o. ran trace o) x.at in
        let y = flat.ends n x.left trace x.way x.store run in
        apart.ends (length (filter stays trace) + 0) y.0 y.1 0 (ap (λ (r : Ran Words (Option ℕ)). r.outcome) (y.3 0))

    waits : ((n : ℕ) → c_run p top kept scalars arrays n ≡ c.running) → (n : ℕ) → (piece_run n).outcome ≡ waiting
    waits w n =
        let same = same_answer source p top name s first kept scalars arrays n typed fit (running_defined (c_run p top kept scalars arrays n) (w n)) in
        waits_as e (piece_run n).trace (piece_run n).outcome (same ∙ w n)

    meaning_as : HasMeaningAs p top cfg kept scalars arrays t
    meaning_as = record { finite = finite; endless = λ w. apart.goes_on (flat.goes_on (waits w)) }

  pub has_meaning : words.Begins e kept scalars arrays t → HaveWidths e t → HasMeaningAs p top cfg kept scalars arrays t
  has_meaning begins fits =
      let found = started_words_hold e kept scalars arrays t fine.short has.apart fits begins in
      meaning_as found.0 found.1 found.2 fits
