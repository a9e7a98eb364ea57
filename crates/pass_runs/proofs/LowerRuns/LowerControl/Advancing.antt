-- Iterations pass points that are kept.
use Rattle.std.proofs.Common.{◌≡◌, ℕ, zero, suc, ◌≤◌, arith, ap, List, ◌∷◌, ◌++◌, length, length-append, Bool, true, filter}
use Rattle.hls_base.specs.declared.point.Point.{Point}
use Rattle.hls_base.specs.Steps.{Outcome, went, undefined, waiting, Ran, ran, then_}
use Rattle.pieces.specs.Trees as tree
use Rattle.pieces.specs.Trees.{PureTree, PieceTrees}
use Rattle.c_meaning.specs.PieceRuns.Values.{Store}
use Rattle.c_meaning.specs.PieceRuns.Pieces.{Frame, pieces_run, test_first, test_last, tested, turned, Way}
use Rattle.pass_runs.proofs.LowerRuns.LowerControl.Following.{filter_more, filter_keeps}
use Rattle.pass_runs.proofs.LowerRuns.LowerControl.Measuring.{Advances}

module _ (kept : Point → Bool) where
  advances_then : {S A B : Type 0} (trace : List Point) (o : Outcome S A) (next : A → S → ℕ → Ran S B) → Advances kept trace o → Advances kept (then_ (ran trace o) next).trace (then_ (ran trace o) next).outcome
  advances_then {S} {A} {B} trace (went v s n) next h = by (next v s n).trace (next v s n).outcome where
    by : (more : List Point) (o : Outcome S B) → Advances {S = S} {A = B} kept (trace ++ more) o
    by more (went w t m) =
        let l = length-append (filter kept trace) (filter kept more) in
        let e : length (filter kept (trace ++ more)) ≡ length (filter kept trace ++ filter kept more) = ap length (filter_more kept trace more) in omega (arith, e, l, h)
    by more (undefined rule at) = tt
    by more waiting = tt
  advances_then trace (undefined rule at) next h = tt
  advances_then trace waiting next h = tt

  begun_advances : (f : Frame) (point : Point) (rest : PieceTrees) → kept point ≡ true → (s : Store) (n : ℕ)
      → Advances kept (pieces_run f (tree.then_ (tree.mark point) rest) s n).trace (pieces_run f (tree.then_ (tree.mark point) rest) s n).outcome
  begun_advances f point rest e s zero = tt
  begun_advances f point rest e s (suc m) = by (pieces_run f rest s m).trace (pieces_run f rest s m).outcome where
    by : (more : List Point) (o : Outcome Store Way) → Advances {S = Store} {A = Way} kept (point ∷ more) o
    by more (went w t k) =
        let l : length (filter kept (point ∷ more)) ≡ length (point ∷ filter kept more) = ap length (filter_keeps kept point more e) in
        let one : 1 ≤ length (point ∷ filter kept more) = omega arith in omega (arith, l, one)
    by more (undefined rule at) = tt
    by more waiting = tt

  module _ (f : Frame) (point : Point) (rest : PieceTrees) (e : kept point ≡ true) (test : PureTree) (s : Store) (n : ℕ) where
    -- the test first, and the body first
    pub first_advances : (body step : Store → ℕ → Ran Store Way) → Advances kept (test_first f (pieces_run f (tree.then_ (tree.mark point) rest)) test body step s n).trace (test_first f (pieces_run f (tree.then_ (tree.mark point) rest)) test body step s n).outcome
    first_advances body step =
        let before = pieces_run f (tree.then_ (tree.mark point) rest) in
        let t = tested f before test s n in
        advances_then t.trace t.outcome _ (advances_then (before s n).trace (before s n).outcome _ (begun_advances f point rest e s n))

    pub last_advances : (before : Store → ℕ → Ran Store Way) → Advances kept (test_last f before test (pieces_run f (tree.then_ (tree.mark point) rest)) s n).trace (test_last f before test (pieces_run f (tree.then_ (tree.mark point) rest)) s n).outcome
    last_advances before =
        let body = pieces_run f (tree.then_ (tree.mark point) rest) in
        let t = turned body s n in
        advances_then t.trace t.outcome _ (advances_then (body s n).trace (body s n).outcome _ (begun_advances f point rest e s n))
