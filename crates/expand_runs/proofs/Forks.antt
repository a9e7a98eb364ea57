-- Operators whose operands are evaluated in branches.
use Rattle.std.proofs.Common.{◌≡◌, ℕ, zero, suc, ◌≤◌, ◌∙◌, sym, refl, ap, subst, ℤ, true, false, true≢false, List, [], ◌∷◌, ◌++◌, append-nil, arith, if◌then◌else◌}
use Rattle.hls_base.specs.declared.place.Place.{Place}
use Rattle.hls_base.specs.declared.point.Point.{Point}
use Rattle.hls_base.specs.declared.point.PointKind.TheVariants as point
use Rattle.c_token.specs.declared.ctype.CType.{CType}
use Rattle.c_value.specs.Values.{convert}
use Rattle.c_value.specs.Operators.{is_true}
use Rattle.pieces.specs.Resolved.Core.{CoreTree}
use Rattle.pieces.specs.Trees as tree
use Rattle.pieces.specs.Trees.{PureTree, PieceTree, piece_row}
use Rattle.piece_making.specs.declared.frame.Home.{Home}
use Rattle.piece_making.specs.Making.{variable_number}
use Rattle.piece_making.specs.Calls.{Call}
use Rattle.hls_base.specs.Steps.{Outcome, went, undefined, waiting, Ran, ran, goes, then_, pass}
use Rattle.hls_base.specs.Valued.{is, valued}
use Rattle.hls_base.specs.Same.{Follows, Same}
use Rattle.c_meaning.specs.CoreRuns.Cells.{Spot, Cells, Here}
use Rattle.c_meaning.specs.CoreRuns.Expressions as ce
use Rattle.c_meaning.specs.PieceRuns.Values.{Store, value, with_variable}
use Rattle.c_meaning.specs.PieceRuns.Pieces.{Frame, Way, on, behind, behind_fork, pieces_run}
use Rattle.expand_runs.specs.Reading.{IsNumber, IsTyped, variable_type, UnaryFits, BinaryFits}
use Rattle.expand_runs.specs.Showing.{Known, IsShown}
use Rattle.expand_runs.specs.Sound.{Objects}
use Rattle.expand_runs.specs.Evaluating.{Evaluated}
use Rattle.expand_runs.specs.Worlds.{IsWorld}
use Rattle.expand_runs.proofs.Sames.{goes_same, then_same, same_as, pass_same, then_then}
use Rattle.expand_runs.proofs.Rows.{run_of, going_on, row_behind}
use Rattle.expand_runs.proofs.Going.{Goes, goes_set}
use Rattle.expand_runs.proofs.Typing.{number_here, number_other, typed_set, converted_number}
use Rattle.expand_runs.proofs.Showing.{shown_apart}
use Rattle.expand_runs.proofs.Evaluating.{on_same}
use Rattle.expand_runs.proofs.Rows.{one_piece}
use Rattle.expand_runs.proofs.ExpressionParts.{Result}

-- ---- pieces behind a part, without a point

finish_at : {S A : Type 0} (f : Frame) (k : ℕ) (R Q : A → S → Way → Store → Type 0) (ys : List PieceTree) (trace : List Point) (o : Outcome S A) (r : Ran Store Way)
    → ((v : A) (s : S) (w : Way) (t : Store) → R v s w t → (w ≡ on) × (t1 : Store) × Goes f ys t t1 × Q v s on t1) → Follows false k R trace o r → Follows false k Q trace o (then_ r (λ w t1 n1. going_on f ys w t1 n1))
finish_at {S} {A} f k R Q ys trace (went v s n) r next h =
    let d = next v s h.0 h.1 h.4 in
    let run_there : then_ (ran trace (went h.0 h.1 n)) (λ w t1 n1. going_on f ys w t1 n1) ≡ ran (trace ++ []) (went on d.1 n) =
    ap (λ w. then_ (ran trace (went w h.1 n)) (λ w t1 n1. going_on f ys w t1 n1)) d.0 ∙ ap (λ (x : Ran Store Way). ran (trace ++ x.trace) x.outcome) (d.2 n) in
    (on, d.1, ap (λ (x : Ran Store Way). then_ x (λ w t1 n1. going_on f ys w t1 n1)) h.2 ∙ run_there ∙ ap (λ x. ran x (went on d.1 n)) (append-nil trace), h.3, d.3)
finish_at f k R Q ys trace (undefined rule at) r next h = λ e. absurd (true≢false (sym e))
finish_at f k R Q ys trace waiting r next h = ap (λ (x : Ran Store Way). then_ x (λ w t1 n1. going_on f ys w t1 n1)) h ∙ ap (λ x. ran x waiting) (append-nil trace)

pub finish_same : {S A : Type 0} (f : Frame) (k : ℕ) (R Q : A → S → Way → Store → Type 0) (xs ys : List PieceTree) (q : Ran S A) (t : Store) (n : ℕ)
    → ((v : A) (s : S) (w : Way) (t : Store) → R v s w t → (w ≡ on) × (t1 : Store) × Goes f ys t t1 × Q v s on t1) → Same false k R q (run_of f xs t n) → Same false k Q q (run_of f (xs ++ ys) t n)
finish_same f k R Q xs ys q t n next h =
    same_as k Q q (then_ (run_of f xs t n) (λ w t1 n1. going_on f ys w t1 n1)) (run_of f (xs ++ ys) t n) (row_behind f xs ys t n) (finish_at f k R Q ys q.trace q.outcome (run_of f xs t n) next h)

-- ---- forks

pub fork_run : (f : Frame) (test : PureTree) (first second : List PieceTree) (end : Point) (t : Store) (n : ℕ) (x : ℤ) → value f.arrays test t ≡ is x
    → run_of f (tree.fork test (piece_row first) (piece_row second) end ∷ []) t n ≡ then_ (if is_true x then run_of f first t n else run_of f second t n) (λ w t1 n1. behind_fork w end t1 n1)
fork_run f test first second end t n x e =
    one_piece f (tree.fork test (piece_row first) (piece_row second) end) t n
    ∙ ap (λ z. valued z (λ x t1 n1. then_ (if is_true x then pieces_run f (piece_row first) t1 n1 else pieces_run f (piece_row second) t1 n1) (λ w t2 n2. behind_fork w end t2 n2)) t n) e

module _ (f : Frame) (k : ℕ) (Homes : Spot → Home → Type 0) (Lives : Spot → Type 0) (kinds : Known) where
  -- Control goes on, and the variable of the operator has this number.
  pub record Decided (own : ℕ) (h : ℤ → ℤ) (v : ℤ) (s : Cells) (w : Way) (t : Store) : Type 0 where
    pub done : Evaluated f Homes Lives kinds s w t
    pub number : t.variables own ≡ h v

  -- a mark is passed
  pub marked_same : (p : Point) (s : Cells) (t : Store) (n : ℕ) → n ≤ k → IsShown f Homes Lives kinds s t → IsTyped f t → Same false k (λ u s1 w t1. Evaluated f Homes Lives kinds s1 w t1) (pass p s n) (run_of f (tree.mark p ∷ []) t n)
  marked_same p s t n le shown typed =
      same_as k (λ u s1 w t1. Evaluated f Homes Lives kinds s1 w t1) (pass p s n) (behind p t n) (run_of f (tree.mark p ∷ []) t n) (one_piece f (tree.mark p) t n) (passed n le)
    where
      passed : (n : ℕ) → n ≤ k → Same false k (λ u s1 w t1. Evaluated f Homes Lives kinds s1 w t1) (pass p s n) (behind p t n)
      passed zero le = refl
      passed (suc n) le = (on, t, refl, omega (arith, le), record { on_ = refl; shown = shown; typed = typed })

  -- Behind a branch the End is passed, and the value is what the variable has.
  pub branch_ended : (own : ℕ) (h : ℤ → ℤ) (end : Point) (q : Ran Cells ℤ) (xs : List PieceTree) (t : Store) (n : ℕ) → Same false k (Decided own h) q (run_of f xs t n)
      → Same false k (Decided own (λ v. v)) (then_ q (λ v s1 n1. then_ (pass end s1 n1) (λ u s2 n2. goes (h v) s2 n2))) (then_ (run_of f xs t n) (λ w t1 n1. behind_fork w end t1 n1))
  branch_ended own h end q xs t n g =
      then_same k (Decided own h) (Decided own (λ v. v)) q (run_of f xs t n) (λ v s1 n1. then_ (pass end s1 n1) (λ u s2 n2. goes (h v) s2 n2)) (λ w t1 n1. behind_fork w end t1 n1) g
      (λ v s1 w t1 n1 le a.
      subst (λ z. Same false k (Decided own (λ v. v)) (then_ (pass end s1 n1) (λ u s2 n2. goes (h v) s2 n2)) (behind_fork z end t1 n1)) (sym a.done.on_)
      (then_same k (λ u s2 z t2. Decided own h v s2 on t2) (Decided own (λ v. v)) (pass end s1 n1) (pass end t1 n1) (λ u s2 n2. goes (h v) s2 n2) (λ u t2 n2. goes on t2 n2)
      (pass_same k (λ u s2 z t2. Decided own h v s2 on t2) end s1 t1 n1 le (record { done = record { on_ = refl; shown = a.done.shown; typed = a.done.typed }; number = a.number }))
      (λ u s2 z t2 n2 le2 b. goes_same k (Decided own (λ v. v)) (h v) s2 on t2 n2 le2 (record { done = b.done; number = b.number }))))

module _ (unary_fits : UnaryFits) (binary_fits : BinaryFits) (f : Frame) (k : ℕ) (here : Here) (c : Call) (o : Objects) (Homes : Spot → Home → Type 0) (Lives : Spot → Type 0) (kinds : Known) (base : ℕ)
    (world : IsWorld f here c o Homes Lives kinds base) where
  -- An arm: its point, the operand, and the setting of the operator's variable.
  pub arm_same : (e : CoreTree) (kd : CType) (own low high : ℕ) (p : Point) (y z : PureTree) (h : ℤ → ℤ) (ys : List PieceTree) (q : Cells → ℕ → Ran Cells ℤ) (s : Cells) (t : Store) (n : ℕ) → n ≤ k → base ≤ own → variable_type f own ≡ kd
      → ((v : ℤ) (t1 : Store) → value f.arrays y t1 ≡ is v → (u : ℤ) × (value f.arrays z t1 ≡ is u) × (convert kd u ≡ h v)) → IsShown f Homes Lives kinds s t → IsTyped f t
      → ((s1 : Cells) (t1 : Store) (n1 : ℕ) → n1 ≤ k → IsShown f Homes Lives kinds s1 t1 → IsTyped f t1 → Same false k (Result unary_fits binary_fits f k here c o Homes Lives kinds base world true e low high y) (q s1 n1) (run_of f ys t1 n1))
      → Same false k (Decided f k Homes Lives kinds own h) (then_ (pass p s n) (λ u s1 n1. q s1 n1)) (run_of f ((tree.mark p ∷ []) ++ (ys ++ (tree.set (variable_number own) z ∷ []))) t n)
  arm_same e kd own low high p y z h ys q s t n le low_own type converted shown typed next =
      let R = Result unary_fits binary_fits f k here c o Homes Lives kinds base world true e low high y in
      let Q = Decided f k Homes Lives kinds own h in
      on_same f k (λ u s1 w t1. Evaluated f Homes Lives kinds s1 w t1) Q (tree.mark p ∷ []) (ys ++ (tree.set (variable_number own) z ∷ [])) (pass p s n) (λ u s1 n1. q s1 n1) t n (marked_same f k Homes Lives kinds p s t n le shown typed) (λ u s1 w t1 a. a.on_)
      (λ u s1 w t1 n1 le1 a.
      finish_same f k R Q ys (tree.set (variable_number own) z ∷ []) (q s1 n1) t1 n1
      (λ v s2 w2 t2 b.
      let m = (b.value tt) in
      let d = converted v t2 m.same in (
        b.done.on_,
        with_variable own (h v) t2,
        (λ j. goes_set f own z t2 d.0 d.1 j ∙ ap (λ x. goes on (with_variable own x t2) j) (ap (λ x. convert x d.0) type ∙ d.2)),
        record {
          done = record {
            on_ = refl;
            shown = shown_apart f Homes Lives kinds base s2 t2 (with_variable own (h v) t2) world.below (λ i lt. number_other t2.variables own i (h v) (λ x. omega (arith, lt, low_own, x))) (λ a i. refl) b.done.shown;
            typed = typed_set f t2 own (h v) b.done.typed (subst (λ x. IsNumber x (h v)) (sym type) (subst (IsNumber kd) d.2 (converted_number kd d.0)));
          };
          number = number_here t2.variables own (h v);
        },
      ))
      (next s1 t1 n1 le1 a.shown a.typed))

  -- The operand of a `?:` that is chosen, between its points.
  pub chosen_same : (e : CoreTree) (kd : CType) (own low high : ℕ) (arm at : Place) (y : PureTree) (ys : List PieceTree) (q : Cells → ℕ → Ran Cells ℤ) (s : Cells) (t : Store) (n : ℕ) → n ≤ k → base ≤ own → variable_type f own ≡ kd → IsShown f Homes Lives kinds s t → IsTyped f t
      → ((s1 : Cells) (t1 : Store) (n1 : ℕ) → n1 ≤ k → IsShown f Homes Lives kinds s1 t1 → IsTyped f t1 → Same false k (Result unary_fits binary_fits f k here c o Homes Lives kinds base world true e low high y) (q s1 n1) (run_of f ys t1 n1))
      → Same false k (Decided f k Homes Lives kinds own (λ v. v)) (ce.chosen true arm at kd here q s n)
      (then_ (run_of f ((tree.mark (ce.point_at point.Arm arm here) ∷ []) ++ (ys ++ (tree.set (variable_number own) y ∷ []))) t n) (λ w t1 n1. behind_fork w (ce.point_at point.End at here) t1 n1))
  chosen_same e kd own low high arm at y ys q s t n le low_own type shown typed next =
      let p = ce.point_at point.Arm arm here in
      let end = ce.point_at point.End at here in
      subst (λ z. Same false k (Decided f k Homes Lives kinds own (λ v. v)) z (then_ (run_of f ((tree.mark p ∷ []) ++ (ys ++ (tree.set (variable_number own) y ∷ []))) t n) (λ w t1 n1. behind_fork w end t1 n1)))
      (then_then (pass p s n) (λ u s1 n1. q s1 n1) (λ v s1 n1. then_ (pass end s1 n1) (λ u s2 n2. goes (convert kd v) s2 n2)))
      (branch_ended f k Homes Lives kinds own (convert kd) end (then_ (pass p s n) (λ u s1 n1. q s1 n1)) ((tree.mark p ∷ []) ++ (ys ++ (tree.set (variable_number own) y ∷ []))) t n
      (arm_same e kd own low high p y y (convert kd) ys q s t n le low_own type (λ v t1 there. (v, there, refl)) shown typed next))
