-- `?:`, `&&` and `||` whose operands are evaluated in branches.
use Rattle.std.proofs.Common.{◌≡◌, ℕ, ◌≤◌, ◌<◌, inr, refl, ap, ℤ, Bool, true, false, List, [], ◌∷◌, ◌++◌, le_refl, if◌then◌else◌}
use Rattle.hls_base.specs.declared.place.Place.{Place}
use Rattle.hls_base.specs.declared.point.PointKind.TheVariants as point
use Rattle.c_token.specs.declared.ctype.CType.{CType}
use Rattle.c_value.specs.Operators.{is_true}
use Rattle.pieces.specs.Resolved.Core as core
use Rattle.pieces.specs.Resolved.Core.{CoreTree}
use Rattle.pieces.specs.Trees as tree
use Rattle.pieces.specs.Trees.{PureTree, PieceTree, piece_row}
use Rattle.piece_making.specs.declared.frame.Home.{Home}
use Rattle.piece_making.specs.Making.{variable_number}
use Rattle.piece_making.specs.Calls.{Call}
use Rattle.hls_base.specs.Steps.{Ran, then_}
use Rattle.hls_base.specs.Valued.{is}
use Rattle.hls_base.specs.Same.{Same}
use Rattle.c_meaning.specs.CoreRuns.Cells.{Spot, Cells, Here}
use Rattle.c_meaning.specs.CoreRuns.Expressions as ce
use Rattle.c_meaning.specs.PieceRuns.Values.{Store, value}
use Rattle.c_meaning.specs.PieceRuns.Pieces.{Frame, Way, behind_fork}
use Rattle.expand_runs.specs.Reading.{IsTyped, variable_type, UnaryFits, BinaryFits}
use Rattle.expand_runs.specs.Showing.{Known, IsShown}
use Rattle.expand_runs.specs.Sound.{Objects}
use Rattle.expand_runs.specs.Worlds.{IsWorld}
use Rattle.expand_runs.proofs.Sames.{same_as, same_more}
use Rattle.expand_runs.proofs.Rows.{run_of}
use Rattle.expand_runs.proofs.Going.{Goes}
use Rattle.expand_runs.proofs.Evaluating.{on_same, goes_first}
use Rattle.expand_runs.proofs.ExpressionParts.{Result}
use Rattle.expand_runs.proofs.Forks.{Decided, fork_run, chosen_same}

-- a branch that is taken in both
pub either_same : {A C : Type 0} (k : ℕ) (Q : A → Cells → C → Store → Type 0) (choice : Bool) (q q' : Ran Cells A) (r r' : Ran Store Way) (g : Way → Store → ℕ → Ran Store C)
    → Same false k Q q (then_ r g) → Same false k Q q' (then_ r' g) → Same false k Q (if choice then q else q') (then_ (if choice then r else r') g)
either_same k Q true q q' r r' g h h' = h
either_same k Q false q q' r r' g h h' = h'

module _ (unary_fits : UnaryFits) (binary_fits : BinaryFits) (f : Frame) (k : ℕ) (here : Here) (c : Call) (o : Objects) (Homes : Spot → Home → Type 0) (Lives : Spot → Type 0) (kinds : Known) (base : ℕ)
    (world : IsWorld f here c o Homes Lives kinds base) where
  abbrev pub Gives : Bool → CoreTree → ℕ → ℕ → PureTree → ℤ → Cells → Way → Store → Type 0
  Gives = Result unary_fits binary_fits f k here c o Homes Lives kinds base world

  abbrev pub Operand : CoreTree → ℕ → ℕ → PureTree → (Cells → ℕ → Ran Cells ℤ) → List PieceTree → Type 0
  Operand e low high y q ys = (s : Cells) (t : Store) (n : ℕ) → n ≤ k → IsShown f Homes Lives kinds s t → IsTyped f t → Same false k (Gives true e low high y) (q s n) (run_of f ys t n)

  abbrev pub branch : Place → List PieceTree → ℕ → PureTree → List PieceTree
  branch at ys own y = (tree.mark (ce.point_at point.Arm at here) ∷ []) ++ (ys ++ (tree.set (variable_number own) y ∷ []))

  -- The test, what saves it, and a fork whose branches set the variable of the operator.
  pub choice_forked : (used : Bool) (test left right : CoreTree) (kd : CType) (at colon : Place) (own low high high1 low2 high2 low3 high3 : ℕ) (x saved y z : PureTree) (xs us ys zs : List PieceTree) (q : Ran Cells ℤ) (ql qr : Cells → ℕ → Ran Cells ℤ) (t : Store) (n : ℕ)
      → base ≤ own → low ≤ own → own < high → variable_type f own ≡ kd → Same false k (Gives true test low high1 x) q (run_of f xs t n)
      → ((v : ℤ) (s1 : Cells) (w : Way) (t1 : Store) → Gives true test low high1 x v s1 w t1 → (t2 : Store) × Goes f us t1 t2 × IsShown f Homes Lives kinds s1 t2 × IsTyped f t2 × (value f.arrays saved t2 ≡ is v))
      → Operand left low2 high2 y ql ys → Operand right low3 high3 z qr zs
      → Same false k (Gives used (core.choice test left right kd at colon) low high (tree.variable (variable_number own) kd))
      (then_ q (λ v s1 n1. if is_true v then ce.chosen true at at kd here ql s1 n1 else ce.chosen true colon at kd here qr s1 n1))
      (run_of f (xs ++ (us ++ (tree.fork saved (piece_row (branch at ys own y)) (piece_row (branch colon zs own z)) (ce.point_at point.End at here) ∷ []))) t n)
  choice_forked used test left right kd at colon own low high high1 low2 high2 low3 high3 x saved y z xs us ys zs q ql qr t n base_own low_own own_high type h drop first second =
      let Q = Gives used (core.choice test left right kd at colon) low high (tree.variable (variable_number own) kd) in
      let D = Decided f k Homes Lives kinds own (λ v. v) in
      let end = ce.point_at point.End at here in
      let ls = branch at ys own y in
      let rs = branch colon zs own z in
      let fork = tree.fork saved (piece_row ls) (piece_row rs) end in
      on_same f k (Gives true test low high1 x) Q xs (us ++ (fork ∷ [])) q (λ v s1 n1. if is_true v then ce.chosen true at at kd here ql s1 n1 else ce.chosen true colon at kd here qr s1 n1) t n h (λ v s w t1 a. a.done.on_)
      (λ v s w t1 n1 le a.
      let d = drop v s w t1 a in
      let core_part = if is_true v then ce.chosen true at at kd here ql s n1 else ce.chosen true colon at kd here qr s n1 in
      goes_first f k Q us (fork ∷ []) core_part t1 d.0 n1 d.1
      (same_as k Q core_part (then_ (if is_true v then run_of f ls d.0 n1 else run_of f rs d.0 n1) (λ w t2 n2. behind_fork w end t2 n2)) (run_of f (fork ∷ []) d.0 n1) (fork_run f saved ls rs end d.0 n1 v d.4)
      (same_more k k D Q core_part (then_ (if is_true v then run_of f ls d.0 n1 else run_of f rs d.0 n1) (λ w t2 n2. behind_fork w end t2 n2)) (le_refl k)
      (λ u s2 w2 t2 b. record { done = b.done; value = λ m. record { same = ap is b.number; type = refl; types = type; reads = inr (low_own, own_high) } })
      (either_same k D (is_true v) (ce.chosen true at at kd here ql s n1) (ce.chosen true colon at kd here qr s n1) (run_of f ls d.0 n1) (run_of f rs d.0 n1) (λ w t2 n2. behind_fork w end t2 n2)
      (chosen_same unary_fits binary_fits f k here c o Homes Lives kinds base world left kd own low2 high2 at at y ys ql s d.0 n1 le base_own type d.2 d.3 first)
      (chosen_same unary_fits binary_fits f k here c o Homes Lives kinds base world right kd own low3 high3 colon at z zs qr s d.0 n1 le base_own type d.2 d.3 second)))))
