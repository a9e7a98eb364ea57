-- The blocks of a whole program have its run.
use Rattle.std.proofs.Common.{◌∙◌, ℕ, suc, arith, Bool, refl, ap, ap₂, sym, [], Some}
use Rattle.std.proofs.lemmas.Bool.{false≢true}
use Rattle.hls_base.specs.declared.point.Point.{Point}
use Rattle.hls_base.specs.Steps.{Ran}
use Rattle.pieces.specs.Program.{ExpandedTree}
use Rattle.c_meaning.specs.PieceRuns.Runs.{frame_of, result_word}
use Rattle.pass_runs.specs.LowerRuns.Following.{IsKeptRun}
use Rattle.c_meaning.specs.PieceRuns.Values.{Store}
use Rattle.c_meaning.specs.PieceRuns.Pieces as p
use Rattle.c_meaning.specs.PieceRuns.Pieces.{Frame, pieces_run}
use Rattle.ir_core.specs.Bodies.{Words}
use Rattle.ir_core.specs.TreeRuns as trees
use Rattle.ir_core.specs.TreeRuns.{sequence_run}
use Rattle.passes.specs.Lowering.Shapes.{first_point, or_at}
use Rattle.passes.specs.Lowering.Blocks.{begun}
use Rattle.passes.specs.Lowering.{last, lowered, side_from}
use Rattle.pass_runs.proofs.LowerRuns.OperatorWords.Whole.{operators_agree}
use Rattle.pass_runs.specs.LowerRuns.Suits.{shapes_of, scope_of}
use Rattle.pass_runs.specs.LowerRuns.Holding.{Holds, none_hidden}
use Rattle.pass_runs.specs.LowerRuns.Suiting.{shut, hidden_at_end}
use Rattle.pass_runs.specs.LowerRuns.LoweredRuns.{AreDone, LoweredKeepsRuns, IsShownResult, IsAnswered, ProgramsKeepRuns}
use Rattle.pass_runs.proofs.LowerRuns.LowerControl.Following.{follows_same, follows_weaker}
use Rattle.pass_runs.proofs.LowerRuns.LowerControl.Measuring.{IsDone, kept_run}
use Rattle.pass_runs.proofs.LowerRuns.LowerControl.Rests.{last_rest}
use Rattle.pass_runs.proofs.LowerRuns.LowerControl.Targets.{Arrives, Ends, Run, last_ends, shapes}
use Rattle.pass_runs.proofs.LowerRuns.LoweredRuns.Trees.{at_end, begin_follows}
use Rattle.pass_runs.proofs.LowerRuns.LoweredRuns.Counting.{pieces_marks, begin_measured}

done : (f : Frame) (kept : Point → Bool) (most start : ℕ) (first : ℕ → _) (second : Run) (way : p.Way) (s : Store) (q : Run) → Ends f shut none_hidden way s q → IsDone kept (AreDone f) most start first second way s q
done f kept most start first second p.on s q a = (trees.on, a.1.0, (refl, refl, a.1.1), a.1.2)
done f kept most start first second p.broke s q a = absurd (false≢true a.0)
done f kept most start first second p.continued s q a = absurd (false≢true a.0)
done f kept most start first second (p.left call) s q a = absurd (false≢true a.0)

pub lowered_runs : LoweredKeepsRuns
lowered_runs f kept pieces point short first fit suits s t holds =
    let most = suc (suc (pieces_marks pieces)) in
    let run = λ (n : ℕ). pieces_run f pieces s n in
    let blocks = λ (n : ℕ). sequence_run (shapes_of f) (lowered (scope_of f) pieces last (begun point)) t n in
    let hidden = hidden_at_end none_hidden none_hidden pieces in
    kept_run kept (AreDone f) most 0 run blocks
    (λ n.
    follows_same kept (IsDone kept (AreDone f) most 0 run blocks) (run n) blocks (λ k. sequence_run (shapes_of f) (lowered (scope_of f) pieces last (begun (or_at point (first_point pieces)))) t k)
    (λ k. ap (λ o. sequence_run (shapes_of f) (lowered (scope_of f) pieces last (begun (or_at point o))) t k) (sym first))
    (follows_weaker kept (Arrives f shut last none_hidden hidden) (IsDone kept (AreDone f) most 0 run blocks) (run n).trace (run n).outcome (λ k. sequence_run (shapes_of f) (lowered (scope_of f) pieces last (begun (or_at point (first_point pieces)))) t k)
    (λ way s1 q a. done f kept most 0 run blocks way s1 q (last_ends f shut none_hidden hidden none_hidden way s1 q (begun point) (λ i e. e) (at_end f pieces none_hidden) a))
    (begin_follows f kept operators_agree short pieces shut none_hidden fit suits point last (last_rest (shapes f)) s t holds n)))
    (λ n. begin_measured f kept most pieces 0 [] none_hidden (omega arith) suits s n)

-- ---- whole programs

-- of the ends more is known
kept_more : {S T A B : Type 0} (kept : Point → Bool) (shows more : A → S → B → T → Type 0) (first : ℕ → Ran S A) (second : ℕ → Ran T B) → ((v : A) (s : S) (w : B) (t : T) → shows v s w t → more v s w t) → IsKeptRun kept shows first second → IsKeptRun kept more first second
kept_more kept shows more first second f h = record {
  passes = h.passes;
  ends = λ n left trace v s e.
      (let a = h.ends n left trace v s e in (a.0, a.1, f v s a.0 a.1 a.2, a.3));
  goes_on = h.goes_on;
  faults = h.faults;
}

result_shown : (e : ExpandedTree) (s : Store) (t : Words) → Holds (frame_of e) none_hidden s t → IsShownResult e s t
result_shown e s t h k v e1 e2 there = ap₂ (λ a b. result_word e a b s) e1 e2 ∙ ap Some (sym (h.variables v k there refl).word)

pub programs_run : ProgramsKeepRuns
programs_run e kept point short first fit suits =
    let f = frame_of e in
    let blocks = lowered (scope_of f) e.pieces last (begun point) in (
      blocks,
      ap (λ o. side_from (λ b. lowered (scope_of f) e.pieces last b) o) first,
      λ s t holds.
          kept_more kept (AreDone f) (IsAnswered e) (λ n. pieces_run f e.pieces s n) (λ n. sequence_run (shapes_of f) blocks t n) (λ way s1 way' t1 a. (a, result_shown e s1 t1 a.2))
          (lowered_runs f kept e.pieces point short first fit suits s t holds),
    )
