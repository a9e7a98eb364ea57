-- Statements without calls keep their runs.
use Rattle.std.proofs.Common.{ℕ, false, Option}
use Rattle.std.proofs.lemmas.Bool.{false≢true}
use Rattle.std.specs.Prelude.{length, None}
use Rattle.hls_base.specs.declared.number.ArrayId.{ArrayId}
use Rattle.piece_making.specs.Making.{State}
use Rattle.piece_making.specs.Calls.{Call}
use Rattle.c_meaning.specs.CoreRuns.Cells.{Here}
use Rattle.c_meaning.specs.CoreRuns.Expressions.{CoreCalls}
use Rattle.c_meaning.specs.PieceRuns.Pieces.{Frame}
use Rattle.c_meaning.proofs.Results.{unary_fits, binary_fits}
use Rattle.expand_runs.specs.Counting.{CalleesCount}
use Rattle.expand_runs.proofs.PieceCounts.Parts.{counted_gives}
use Rattle.expand_runs.specs.Calling.{CallsSame}
use Rattle.expand_runs.proofs.Fine.{fine_gives}
use Rattle.expand_runs.proofs.FineExpressions.{CalleesKeep}
use Rattle.expanded_programs.specs.Statements.Scopes.{Reach, Among, objects_in}
use Rattle.expanded_programs.specs.Statements.Frames.{IsScene, HomesIn, LivesIn}
use Rattle.expanded_programs.specs.Statements.{Tables, setting_of, known_of, HomesOf, LivesOf, no_calls, Nowhere, reach_of, StatementsKeepRuns}
use Rattle.expanded_programs.proofs.StatementsLemmas.Scenes.{seen_cell}
use Rattle.expanded_programs.proofs.StatementsLemmas.Statements.{statements_same}

module _ (m : Tables) (f : Frame) (k : ℕ) (here : Here) (c : Call) (base : ℕ) (cc : CoreCalls) where
  keep_nothing : (r : Reach) → CalleesKeep f (objects_in (setting_of m) r) no_calls c
  keep_nothing r = record {
    any = λ callee args given at s fits shape le file puts. fine_gives f (λ t. Unit {0}) None s;
    fine = λ I low own callee args given at s fits shape le file puts. fine_gives f I None s;
  }

  same_nothing : (r : Reach) (seen : ℕ → Option ArrayId) (st : State) → IsScene f c (setting_of m) (HomesOf m) base r seen st
      → CallsSame k f here c (objects_in (setting_of m) r) (HomesIn here c (HomesOf m) (LivesOf m) seen) (LivesIn here c (HomesOf m) (LivesOf m) r) (known_of m) base (length st.arrays) (seen_cell seen) cc no_calls
  same_nothing r seen st scene used callee args kd takes = absurd takes.2

  count_nothing : CalleesCount no_calls c
  count_nothing callee given at s = counted_gives None s

pub kept : StatementsKeepRuns
kept m f k here c fresh base frame cc tail body own seen sound st scene within s t n le rel =
    statements_same unary_fits binary_fits f k here c (setting_of m) (HomesOf m) (LivesOf m) (known_of m) fresh base frame cc no_calls (keep_nothing m f k here c base cc) (same_nothing m f k here c base cc) (count_nothing m f k here c base cc)
    tail body (reach_of m) seen (λ i. Among own i) false false false sound st scene within Nowhere Nowhere (λ e. absurd (false≢true e)) (λ e. absurd (false≢true e)) s t n le rel
