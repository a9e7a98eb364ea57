-- Statements one after another, selections and loops whose parts do the same do the same.
use Rattle.std.proofs.Common.{◌≡◌, ℕ, zero, suc, ◌≤◌, ◌∙◌, sym, refl, ap, subst, ℤ, Bool, true, false, true≢false, List, [], ◌∷◌, ◌++◌, append-nil, Option}
use Rattle.hls_base.specs.declared.place.Place.{Place}
use Rattle.hls_base.specs.declared.point.Point.{Point}
use Rattle.hls_base.specs.declared.point.PointKind.TheVariants as point
use Rattle.c_meaning.specs.declared.value.Completion.{Completion}
use Rattle.c_meaning.specs.declared.value.Completion.TheVariants as end
use Rattle.c_meaning.specs.declared.value.Round.{Round}
use Rattle.c_meaning.specs.declared.value.Round.TheVariants as round
use Rattle.c_meaning.specs.Statement.{round_of, completion_of}
use Rattle.pieces.specs.declared.piece.CallId.{CallId}
use Rattle.pieces.specs.Trees.{PieceTree}
use Rattle.hls_base.specs.Steps.{Outcome, went, undefined, waiting, Ran, ran, goes, then_, pass}
use Rattle.hls_base.specs.Same.{Same}
use Rattle.c_meaning.specs.CoreRuns.Cells.{Cells, Here}
use Rattle.c_meaning.specs.CoreRuns.Expressions.{point_at}
use Rattle.c_meaning.specs.CoreRuns.Statements as ks
use Rattle.c_meaning.specs.PieceRuns.Values.{Store}
use Rattle.c_meaning.specs.PieceRuns.Pieces.{Frame, Way, on, broke, continued, left, Turn, over, out, behind_fork, behind_switch, behind_loop, turn_of, if_again, repeat, piece_run}
use Rattle.expanded_programs.specs.Statements.Ending.{Ends, Turns}
use Rattle.expand_runs.proofs.Sames.{goes_same, then_same, same_as, pass_same}
use Rattle.expand_runs.proofs.Rows.{run_of, landed_in, going_on, rows_same}

module _ (f : Frame) (k : ℕ) (I B C : Cells → Store → Type 0) (Q : Option ℤ → Cells → Store → Type 0) (call : CallId) where
  -- ---- points

  passed_same : (tail leaves : Bool) (p : Point) (r : Completion) (w : Way) (s : Cells) (t : Store) (n : ℕ) → n ≤ k → Ends I B C Q call tail leaves r s w t
      → Same false k (Ends I B C Q call tail leaves) (then_ (pass p s n) (λ u s1 n1. goes r s1 n1)) (then_ (pass p t n) (λ u t1 n1. goes w t1 n1))
  passed_same tail leaves p r w s t n le h =
      then_same k (λ u s1 v t1. Ends I B C Q call tail leaves r s1 w t1) (Ends I B C Q call tail leaves) (pass p s n) (pass p t n) (λ u s1 n1. goes r s1 n1) (λ u t1 n1. goes w t1 n1)
      (pass_same k (λ u s1 v t1. Ends I B C Q call tail leaves r s1 w t1) p s t n le h) (λ u s1 v t1 n1 le1 h1. goes_same k (Ends I B C Q call tail leaves) r s1 w t1 n1 le1 h1)

  -- ---- one after another

  go_on_same : (I1 : Cells → Store → Type 0) (tail tail1 leaves leaves1 : Bool) (ys : List PieceTree) (rest : Cells → ℕ → Ran Cells Completion) (r : Completion) (w : Way) (s : Cells) (t : Store) (n : ℕ) → n ≤ k
      → (tail1 ≡ true → (ys ≡ []) × (tail ≡ true)) → (leaves1 ≡ true → leaves ≡ true) → (landed_in f ys call t n ≡ goes (left call) t n)
      → (I1 s t → Same false k (Ends I B C Q call tail leaves) (rest s n) (run_of f ys t n)) → Ends I1 B C Q call tail1 leaves1 r s w t
      → Same false k (Ends I B C Q call tail leaves) (ks.go_on r rest s n) (going_on f ys w t n)
  go_on_same I1 tail tail1 leaves leaves1 ys rest end.Normal w s t n le last more passes next h =
      subst (λ z. Same false k (Ends I B C Q call tail leaves) (rest s n) (going_on f ys z t n)) (sym h.0) (next h.1)
  go_on_same I1 tail tail1 leaves leaves1 ys rest end.Broke w s t n le last more passes next h =
      subst (λ z. Same false k (Ends I B C Q call tail leaves) (goes end.Broke s n) (going_on f ys z t n)) (sym h.0) (goes_same k (Ends I B C Q call tail leaves) end.Broke s broke t n le (refl, h.1))
  go_on_same I1 tail tail1 leaves leaves1 ys rest end.Continued w s t n le last more passes next h =
      subst (λ z. Same false k (Ends I B C Q call tail leaves) (goes end.Continued s n) (going_on f ys z t n)) (sym h.0) (goes_same k (Ends I B C Q call tail leaves) end.Continued s continued t n le (refl, h.1))
  go_on_same I1 tail tail1 leaves leaves1 ys rest (end.Returned v true) w s t n le last more passes next h =
      subst (λ z. Same false k (Ends I B C Q call tail leaves) (goes (end.Returned v true) s n) (going_on f ys z t n)) (sym h.0)
      (subst (λ z. Same false k (Ends I B C Q call tail leaves) (goes (end.Returned v true) s n) (run_of f z t n)) (sym (last h.1).0)
      (goes_same k (Ends I B C Q call tail leaves) (end.Returned v true) s on t n le (refl, (last h.1).1, h.2)))
  go_on_same I1 tail tail1 leaves leaves1 ys rest (end.Returned v false) w s t n le last more passes next h =
      subst (λ z. Same false k (Ends I B C Q call tail leaves) (goes (end.Returned v false) s n) (going_on f ys z t n)) (sym h.0)
      (same_as k (Ends I B C Q call tail leaves) (goes (end.Returned v false) s n) (goes (left call) t n) (landed_in f ys call t n) passes
      (goes_same k (Ends I B C Q call tail leaves) (end.Returned v false) s (left call) t n le (refl, more h.1, h.2)))

  -- A statement and those behind it: nothing is made behind one in a tail position, and what is made behind one that leaves the call has no end of that call.
  pub sequence_same : (I1 : Cells → Store → Type 0) (tail tail1 leaves leaves1 : Bool) (xs ys : List PieceTree) (q : Ran Cells Completion) (rest : Cells → ℕ → Ran Cells Completion) (t : Store) (n : ℕ)
      → (tail1 ≡ true → (ys ≡ []) × (tail ≡ true)) → (leaves1 ≡ true → leaves ≡ true) → ((t1 : Store) (n1 : ℕ) → landed_in f ys call t1 n1 ≡ goes (left call) t1 n1)
      → Same false k (Ends I1 B C Q call tail1 leaves1) q (run_of f xs t n) → ((s1 : Cells) (t1 : Store) (n1 : ℕ) → n1 ≤ k → I1 s1 t1 → Same false k (Ends I B C Q call tail leaves) (rest s1 n1) (run_of f ys t1 n1))
      → Same false k (Ends I B C Q call tail leaves) (then_ q (λ r s1 n1. ks.go_on r rest s1 n1)) (run_of f (xs ++ ys) t n)
  sequence_same I1 tail tail1 leaves leaves1 xs ys q rest t n last more passes h next =
      rows_same f k (Ends I1 B C Q call tail1 leaves1) (Ends I B C Q call tail leaves) xs ys q (λ r s1 n1. ks.go_on r rest s1 n1) t n h
      (λ r s1 w t1 n1 le e. go_on_same I1 tail tail1 leaves leaves1 ys rest r w s1 t1 n1 le last more (passes t1 n1) (λ i. next s1 t1 n1 le i) e)

  -- ---- selection

  pub behind_if_same : (tail leaves : Bool) (at : Place) (here : Here) (r : Completion) (w : Way) (s : Cells) (t : Store) (n : ℕ) → n ≤ k → Ends I B C Q call tail leaves r s w t
      → Same false k (Ends I B C Q call tail leaves) (ks.behind_if r at here s n) (behind_fork w (point_at point.End at here) t n)
  behind_if_same tail leaves at here end.Normal w s t n le h =
      subst (λ z. Same false k (Ends I B C Q call tail leaves) (ks.behind_if end.Normal at here s n) (behind_fork z (point_at point.End at here) t n)) (sym h.0) (passed_same tail leaves (point_at point.End at here) end.Normal on s t n le (refl, h.1))
  behind_if_same tail leaves at here end.Broke w s t n le h =
      subst (λ z. Same false k (Ends I B C Q call tail leaves) (ks.behind_if end.Broke at here s n) (behind_fork z (point_at point.End at here) t n)) (sym h.0) (goes_same k (Ends I B C Q call tail leaves) end.Broke s broke t n le (refl, h.1))
  behind_if_same tail leaves at here end.Continued w s t n le h =
      subst (λ z. Same false k (Ends I B C Q call tail leaves) (ks.behind_if end.Continued at here s n) (behind_fork z (point_at point.End at here) t n)) (sym h.0) (goes_same k (Ends I B C Q call tail leaves) end.Continued s continued t n le (refl, h.1))
  behind_if_same tail leaves at here (end.Returned v true) w s t n le h =
      subst (λ z. Same false k (Ends I B C Q call tail leaves) (ks.behind_if (end.Returned v true) at here s n) (behind_fork z (point_at point.End at here) t n)) (sym h.0)
      (passed_same tail leaves (point_at point.End at here) (end.Returned v true) on s t n le (refl, h.1, h.2))
  behind_if_same tail leaves at here (end.Returned v false) w s t n le h =
      subst (λ z. Same false k (Ends I B C Q call tail leaves) (ks.behind_if (end.Returned v false) at here s n) (behind_fork z (point_at point.End at here) t n)) (sym h.0)
      (goes_same k (Ends I B C Q call tail leaves) (end.Returned v false) s (left call) t n le (refl, h.1, h.2))

  -- Behind a switch. Nothing in it is in a tail position.
  pub behind_switch_same : (leaves : Bool) (at : Place) (here : Here) (r : Completion) (w : Way) (s : Cells) (t : Store) (n : ℕ) → n ≤ k → Ends I I C Q call false leaves r s w t
      → Same false k (Ends I B C Q call false leaves) (ks.behind_breakable r at here s n) (behind_switch w (point_at point.End at here) t n)
  behind_switch_same leaves at here end.Normal w s t n le h =
      subst (λ z. Same false k (Ends I B C Q call false leaves) (ks.behind_breakable end.Normal at here s n) (behind_switch z (point_at point.End at here) t n)) (sym h.0) (passed_same false leaves (point_at point.End at here) end.Normal on s t n le (refl, h.1))
  behind_switch_same leaves at here end.Broke w s t n le h =
      subst (λ z. Same false k (Ends I B C Q call false leaves) (ks.behind_breakable end.Broke at here s n) (behind_switch z (point_at point.End at here) t n)) (sym h.0) (passed_same false leaves (point_at point.End at here) end.Normal on s t n le (refl, h.1))
  behind_switch_same leaves at here end.Continued w s t n le h =
      subst (λ z. Same false k (Ends I B C Q call false leaves) (ks.behind_breakable end.Continued at here s n) (behind_switch z (point_at point.End at here) t n)) (sym h.0) (goes_same k (Ends I B C Q call false leaves) end.Continued s continued t n le (refl, h.1))
  behind_switch_same leaves at here (end.Returned v true) w s t n le h = absurd (true≢false (sym h.1))
  behind_switch_same leaves at here (end.Returned v false) w s t n le h =
      subst (λ z. Same false k (Ends I B C Q call false leaves) (ks.behind_breakable (end.Returned v false) at here s n) (behind_switch z (point_at point.End at here) t n)) (sym h.0)
      (goes_same k (Ends I B C Q call false leaves) (end.Returned v false) s (left call) t n le (refl, h.1, h.2))

  -- ---- iteration

  -- A body that ends so is a round that ends so.
  pub turned_same : (leaves : Bool) (r : Completion) (w : Way) (s : Cells) (t : Store) (n : ℕ) → n ≤ k → Ends I I I Q call false leaves r s w t → Same false k (Turns I Q call leaves) (goes (round_of r) s n) (goes (turn_of w) t n)
  turned_same leaves end.Normal w s t n le h = goes_same k (Turns I Q call leaves) round.Again s (turn_of w) t n le (ap turn_of h.0, h.1)
  turned_same leaves end.Broke w s t n le h = goes_same k (Turns I Q call leaves) round.Over s (turn_of w) t n le (ap turn_of h.0, h.1)
  turned_same leaves end.Continued w s t n le h = goes_same k (Turns I Q call leaves) round.Again s (turn_of w) t n le (ap turn_of h.0, h.1)
  turned_same leaves (end.Returned v true) w s t n le h = absurd (true≢false (sym h.1))
  turned_same leaves (end.Returned v false) w s t n le h = goes_same k (Turns I Q call leaves) (round.Out v) s (turn_of w) t n le (ap turn_of h.0, h.1, h.2)

  pub again_same : (leaves : Bool) (r : Round) (w : Turn) (rest : Cells → ℕ → Ran Cells Round) (rest' : Store → ℕ → Ran Store Turn) (s : Cells) (t : Store) (n : ℕ) → n ≤ k → Turns I Q call leaves r s w t
      → (I s t → Same false k (Turns I Q call leaves) (rest s n) (rest' t n)) → Same false k (Turns I Q call leaves) (ks.if_again r rest s n) (if_again w rest' t n)
  again_same leaves round.Again w rest rest' s t n le h next = subst (λ z. Same false k (Turns I Q call leaves) (rest s n) (if_again z rest' t n)) (sym h.0) (next h.1)
  again_same leaves round.Over w rest rest' s t n le h next =
      subst (λ z. Same false k (Turns I Q call leaves) (goes round.Over s n) (if_again z rest' t n)) (sym h.0) (goes_same k (Turns I Q call leaves) round.Over s over t n le (refl, h.1))
  again_same leaves (round.Out v) w rest rest' s t n le h next =
      subst (λ z. Same false k (Turns I Q call leaves) (goes (round.Out v) s n) (if_again z rest' t n)) (sym h.0) (goes_same k (Turns I Q call leaves) (round.Out v) s (out (left call)) t n le (refl, h.1, h.2))

  -- What each iteration keeps, all of them keep.
  pub repeat_same : (leaves : Bool) (round : Cells → ℕ → Ran Cells Round) (round' : Store → ℕ → Ran Store Turn) → ((s : Cells) (t : Store) (n : ℕ) → n ≤ k → I s t → Same false k (Turns I Q call leaves) (round s n) (round' t n))
      → (fuel : ℕ) (s : Cells) (t : Store) (n : ℕ) → n ≤ k → I s t → Same false k (Turns I Q call leaves) (ks.repeat fuel round s n) (repeat fuel round' t n)
  repeat_same leaves round round' h zero s t n le i = refl
  repeat_same leaves round round' h (suc fuel) s t n le i =
      then_same k (Turns I Q call leaves) (Turns I Q call leaves) (round s n) (round' t n) (λ r s1 n1. ks.if_again r (ks.repeat fuel round) s1 n1) (λ w t1 n1. if_again w (repeat fuel round') t1 n1) (h s t n le i)
      (λ r s1 w t1 n1 le1 e. again_same leaves r w (ks.repeat fuel round) (repeat fuel round') s1 t1 n1 le1 e (λ j. repeat_same leaves round round' h fuel s1 t1 n1 le1 j))

  behind_loop_same : (leaves : Bool) (at : Place) (here : Here) (r : Round) (w : Turn) (s : Cells) (t : Store) (n : ℕ) → n ≤ k → Turns I Q call leaves r s w t
      → Same false k (Ends I B C Q call false leaves) (ks.behind_breakable (completion_of r) at here s n) (behind_loop w (point_at point.End at here) t n)
  behind_loop_same leaves at here round.Again w s t n le h =
      subst (λ z. Same false k (Ends I B C Q call false leaves) (ks.behind_breakable end.Normal at here s n) (behind_loop z (point_at point.End at here) t n)) (sym h.0) (passed_same false leaves (point_at point.End at here) end.Normal on s t n le (refl, h.1))
  behind_loop_same leaves at here round.Over w s t n le h =
      subst (λ z. Same false k (Ends I B C Q call false leaves) (ks.behind_breakable end.Normal at here s n) (behind_loop z (point_at point.End at here) t n)) (sym h.0) (passed_same false leaves (point_at point.End at here) end.Normal on s t n le (refl, h.1))
  behind_loop_same leaves at here (round.Out v) w s t n le h =
      subst (λ z. Same false k (Ends I B C Q call false leaves) (goes (end.Returned v false) s n) (behind_loop z (point_at point.End at here) t n)) (sym h.0)
      (goes_same k (Ends I B C Q call false leaves) (end.Returned v false) s (left call) t n le (refl, h.1, h.2))

  -- A loop, of whose rounds each keeps what relates the stores.
  pub loop_same : (leaves : Bool) (at : Place) (here : Here) (round : Cells → ℕ → Ran Cells Round) (round' : Store → ℕ → Ran Store Turn) → ((s : Cells) (t : Store) (n : ℕ) → n ≤ k → I s t → Same false k (Turns I Q call leaves) (round s n) (round' t n))
      → (s : Cells) (t : Store) (n : ℕ) → n ≤ k → I s t → Same false k (Ends I B C Q call false leaves) (ks.loop at here round s n) (then_ (repeat n round' t n) (λ w t1 n1. behind_loop w (point_at point.End at here) t1 n1))
  loop_same leaves at here round round' h s t n le i =
      then_same k (Turns I Q call leaves) (Ends I B C Q call false leaves) (ks.repeat n round s n) (repeat n round' t n) (λ r s1 n1. ks.behind_breakable (completion_of r) at here s1 n1) (λ w t1 n1. behind_loop w (point_at point.End at here) t1 n1)
      (repeat_same leaves round round' h n s t n le i) (λ r s1 w t1 n1 le1 e. behind_loop_same leaves at here r w s1 t1 n1 le1 e)
