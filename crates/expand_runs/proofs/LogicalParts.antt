-- `&&` and `||` whose second operand is evaluated in a branch.
use Rattle.std.proofs.Common.{◌≡◌, ℕ, ◌≤◌, ◌<◌, ◌∙◌, inr, sym, refl, ap, subst, ℤ, pos, Bool, true, false, not, List, [], ◌∷◌, ◌++◌, le_refl, arith, if◌then◌else◌}
use Rattle.std.specs.Ordering.{int_eq}
use Rattle.hls_base.specs.declared.place.Place.{Place}
use Rattle.hls_base.specs.declared.point.PointKind.TheVariants as point
use Rattle.c_token.specs.declared.ctype.CType.{CType}
use Rattle.c_token.specs.declared.ctype.CType.TheVariants as type
use Rattle.c_tree.specs.declared.operator.Binary.TheVariants as b
use Rattle.c_value.specs.Values.{int_type, convert}
use Rattle.c_value.specs.Operators.{is_true, truth}
use Rattle.pieces.specs.Resolved.Core as core
use Rattle.pieces.specs.Resolved.Core.{CoreTree}
use Rattle.c_meaning.specs.CoreRuns.Kinds.{kind_of}
use Rattle.pieces.specs.Trees as tree
use Rattle.pieces.specs.Trees.{PureTree, PieceTree, piece_row}
use Rattle.piece_making.specs.declared.frame.Home.{Home}
use Rattle.piece_making.specs.Making.{variable_number}
use Rattle.piece_making.specs.Calls.{Call}
use Rattle.hls_base.specs.Steps.{Ran, goes, then_, pass}
use Rattle.hls_base.specs.Valued.{is, and_then}
use Rattle.hls_base.specs.Same.{Same}
use Rattle.c_meaning.specs.CoreRuns.Cells.{Spot, Cells, Here}
use Rattle.c_meaning.specs.CoreRuns.Expressions as ce
use Rattle.c_meaning.specs.PieceRuns.Values.{Store, value, with_variable}
use Rattle.c_meaning.specs.PieceRuns.Pieces.{Frame, Way, on, behind_fork}
use Rattle.expand_runs.specs.Reading.{IsNumber, IsTyped, variable_type, UnaryFits, BinaryFits}
use Rattle.expand_runs.specs.Showing.{Known, IsShown}
use Rattle.expand_runs.specs.Sound.{Objects}
use Rattle.expand_runs.specs.Worlds.{IsWorld}
use Rattle.expand_runs.proofs.Sames.{goes_same, same_as, same_more, then_then}
use Rattle.expand_runs.proofs.Rows.{run_of}
use Rattle.expand_runs.proofs.Going.{Goes, goes_set}
use Rattle.expand_runs.proofs.Typing.{number_here, number_other, typed_set, truth_number}
use Rattle.expand_runs.proofs.Showing.{shown_apart}
use Rattle.expand_runs.proofs.Evaluating.{on_same, goes_first}
use Rattle.expand_runs.proofs.Forks.{Decided, fork_run, branch_ended, arm_same}
use Rattle.expand_runs.proofs.ForkParts.{Operand, Gives, either_same, branch}

bool_truth : (zero_ : Bool) → convert int_type (if zero_ then pos 0 else pos 1) ≡ truth (not zero_)
bool_truth true = refl
bool_truth false = refl

abbrev decided_word : Bool → ℕ
decided_word d = if d then 1 else 0

module _ (unary_fits : UnaryFits) (binary_fits : BinaryFits) (f : Frame) (k : ℕ) (here : Here) (c : Call) (o : Objects) (Homes : Spot → Home → Type 0) (Lives : Spot → Type 0) (kinds : Known) (base : ℕ)
    (world : IsWorld f here c o Homes Lives kinds base) where
  abbrev D : ℕ → ℤ → Cells → Way → Store → Type 0
  D own = Decided f k Homes Lives kinds own (λ v. v)

  decided_value : (d : Bool) (f1 : Frame) (t : Store) → value f1.arrays (tree.number (decided_word d) int_type) t ≡ is (truth d)
  decided_value true f1 t = refl
  decided_value false f1 t = refl

  -- The first operand decides: the branch sets its truth.
  first_alone_same : (d : Bool) (own : ℕ) (at : Place) (s : Cells) (t : Store) (n : ℕ) → n ≤ k → base ≤ own → variable_type f own ≡ int_type → IsShown f Homes Lives kinds s t → IsTyped f t
      → Same false k (D own) (ce.first_alone true at here d s n) (then_ (run_of f (tree.set (variable_number own) (tree.number (decided_word d) int_type) ∷ []) t n) (λ w t1 n1. behind_fork w (ce.point_at point.End at here) t1 n1))
  first_alone_same d own at s t n le base_own type shown typed =
      let end = ce.point_at point.End at here in
      let set_ = tree.set (variable_number own) (tree.number (decided_word d) int_type) in
      let t1 = with_variable own (truth d) t in
      branch_ended f k Homes Lives kinds own (λ v. v) end (goes (truth d) s n) (set_ ∷ []) t n
      (same_as k (D own) (goes (truth d) s n) (goes on t1 n) (run_of f (set_ ∷ []) t n)
      (goes_set f own (tree.number (decided_word d) int_type) t (truth d) (decided_value d f t) n ∙ ap (λ z. goes on (with_variable own z t) n) (ap (λ z. convert z (truth d)) type ∙ truth_number d))
      (goes_same k (D own) (truth d) s on t1 n le (record {
        done = record {
          on_ = refl;
          shown = shown_apart f Homes Lives kinds base s t t1 world.below (λ i lt. number_other t.variables own i (truth d) (λ z. omega (arith, lt, base_own, z))) (λ a i. refl) shown;
          typed = typed_set f t own (truth d) typed (subst (λ z. IsNumber z (truth d)) (sym type) (truth_number d));
        };
        number = number_here t.variables own (truth d);
      })))

  -- The second operand decides: the branch sets its truth.
  both_same : (e : CoreTree) (own low high : ℕ) (at : Place) (z : PureTree) (zs : List PieceTree) (q : Cells → ℕ → Ran Cells ℤ) (s : Cells) (t : Store) (n : ℕ) → n ≤ k → base ≤ own → variable_type f own ≡ int_type → IsShown f Homes Lives kinds s t → IsTyped f t
      → Operand unary_fits binary_fits f k here c o Homes Lives kinds base world e low high z q zs
      → Same false k (D own) (ce.both true at here q s n)
      (then_ (run_of f (branch unary_fits binary_fits f k here c o Homes Lives kinds base world at zs own (tree.cast type.Bool z)) t n) (λ w t1 n1. behind_fork w (ce.point_at point.End at here) t1 n1))
  both_same e own low high at z zs q s t n le base_own kind_ shown typed next =
      let p = ce.point_at point.Arm at here in
      let end = ce.point_at point.End at here in
      let h = λ (v : ℤ). truth (is_true v) in
      let ls = (tree.mark p ∷ []) ++ (zs ++ (tree.set (variable_number own) (tree.cast type.Bool z) ∷ [])) in
      subst (λ r. Same false k (D own) r (then_ (run_of f ls t n) (λ w t1 n1. behind_fork w end t1 n1)))
      (then_then (pass p s n) (λ u s1 n1. q s1 n1) (λ v s1 n1. then_ (pass end s1 n1) (λ u s2 n2. goes (h v) s2 n2)))
      (branch_ended f k Homes Lives kinds own h end (then_ (pass p s n) (λ u s1 n1. q s1 n1)) ls t n
      (arm_same unary_fits binary_fits f k here c o Homes Lives kinds base world e int_type own low high p z (tree.cast type.Bool z) h zs q s t n le base_own kind_
      (λ v t1 there. (convert type.Bool v, ap (λ r. and_then r (λ y. is (convert type.Bool y))) there, bool_truth (int_eq v (pos 0)))) shown typed next))

  abbrev Drops : CoreTree → ℕ → ℕ → PureTree → PureTree → List PieceTree → Type 0
  Drops left low high x saved us =
      (v : ℤ) (s1 : Cells) (w : Way) (t1 : Store) → Gives unary_fits binary_fits f k here c o Homes Lives kinds base world true left low high x v s1 w t1
      → (t2 : Store) × Goes f us t1 t2 × IsShown f Homes Lives kinds s1 t2 × IsTyped f t2 × (value f.arrays saved t2 ≡ is v)

  -- the first operand, what saves it, and a fork
  pub and_forked : (used : Bool) (left right : CoreTree) (at : Place) (own low high high1 low2 high2 : ℕ) (x saved z : PureTree) (xs us zs : List PieceTree) (q : Ran Cells ℤ) (r : Cells → ℕ → Ran Cells ℤ) (t : Store) (n : ℕ)
      → base ≤ own → low ≤ own → own < high → variable_type f own ≡ int_type → Same false k (Gives unary_fits binary_fits f k here c o Homes Lives kinds base world true left low high1 x) q (run_of f xs t n) → Drops left low high1 x saved us
      → Operand unary_fits binary_fits f k here c o Homes Lives kinds base world right low2 high2 z r zs
      → Same false k (Gives unary_fits binary_fits f k here c o Homes Lives kinds base world used (core.binary b.LogAnd left right int_type at) low high (tree.variable (variable_number own) int_type))
      (then_ q (λ v s1 n1. ce.joined b.LogAnd (kind_of left) v (kind_of right) true at here r s1 n1))
      (run_of f (xs ++ (us ++ (tree.fork saved (piece_row (branch unary_fits binary_fits f k here c o Homes Lives kinds base world at zs own (tree.cast type.Bool z))) (piece_row (tree.set (variable_number own) (tree.number 0 int_type) ∷ [])) (ce.point_at point.End at here) ∷ []))) t n)
  and_forked used left right at own low high high1 low2 high2 x saved z xs us zs q r t n base_own low_own own_high kind_ h drop second =
      let R = Gives unary_fits binary_fits f k here c o Homes Lives kinds base world true left low high1 x in
      let Q = Gives unary_fits binary_fits f k here c o Homes Lives kinds base world used (core.binary b.LogAnd left right int_type at) low high (tree.variable (variable_number own) int_type) in
      let end = ce.point_at point.End at here in
      let ls = branch unary_fits binary_fits f k here c o Homes Lives kinds base world at zs own (tree.cast type.Bool z) in
      let rs = tree.set (variable_number own) (tree.number 0 int_type) ∷ [] in
      let fork = tree.fork saved (piece_row ls) (piece_row rs) end in
      on_same f k R Q xs (us ++ (fork ∷ [])) q (λ v s1 n1. ce.joined b.LogAnd (kind_of left) v (kind_of right) true at here r s1 n1) t n h (λ v s w t1 a. a.done.on_)
      (λ v s w t1 n1 le a.
      let d = drop v s w t1 a in
      let core_part = if is_true v then ce.both true at here r s n1 else ce.first_alone true at here false s n1 in
      goes_first f k Q us (fork ∷ []) core_part t1 d.0 n1 d.1
      (same_as k Q core_part (then_ (if is_true v then run_of f ls d.0 n1 else run_of f rs d.0 n1) (λ w t2 n2. behind_fork w end t2 n2)) (run_of f (fork ∷ []) d.0 n1) (fork_run f saved ls rs end d.0 n1 v d.4)
      (same_more k k (D own) Q core_part (then_ (if is_true v then run_of f ls d.0 n1 else run_of f rs d.0 n1) (λ w t2 n2. behind_fork w end t2 n2)) (le_refl k)
      (λ u s2 w2 t2 m. record { done = m.done; value = λ z. record { same = ap is m.number; type = refl; types = kind_; reads = inr (low_own, own_high) } })
      (either_same k (D own) (is_true v) (ce.both true at here r s n1) (ce.first_alone true at here false s n1) (run_of f ls d.0 n1) (run_of f rs d.0 n1) (λ w t2 n2. behind_fork w end t2 n2)
      (both_same right own low2 high2 at z zs r s d.0 n1 le base_own kind_ d.2 d.3 second)
      (first_alone_same false own at s d.0 n1 le base_own kind_ d.2 d.3)))))

  pub or_forked : (used : Bool) (left right : CoreTree) (at : Place) (own low high high1 low2 high2 : ℕ) (x saved z : PureTree) (xs us zs : List PieceTree) (q : Ran Cells ℤ) (r : Cells → ℕ → Ran Cells ℤ) (t : Store) (n : ℕ)
      → base ≤ own → low ≤ own → own < high → variable_type f own ≡ int_type → Same false k (Gives unary_fits binary_fits f k here c o Homes Lives kinds base world true left low high1 x) q (run_of f xs t n) → Drops left low high1 x saved us
      → Operand unary_fits binary_fits f k here c o Homes Lives kinds base world right low2 high2 z r zs
      → Same false k (Gives unary_fits binary_fits f k here c o Homes Lives kinds base world used (core.binary b.LogOr left right int_type at) low high (tree.variable (variable_number own) int_type))
      (then_ q (λ v s1 n1. ce.joined b.LogOr (kind_of left) v (kind_of right) true at here r s1 n1))
      (run_of f (xs ++ (us ++ (tree.fork saved (piece_row (tree.set (variable_number own) (tree.number 1 int_type) ∷ [])) (piece_row (branch unary_fits binary_fits f k here c o Homes Lives kinds base world at zs own (tree.cast type.Bool z))) (ce.point_at point.End at here) ∷ []))) t n)
  or_forked used left right at own low high high1 low2 high2 x saved z xs us zs q r t n base_own low_own own_high kind_ h drop second =
      let R = Gives unary_fits binary_fits f k here c o Homes Lives kinds base world true left low high1 x in
      let Q = Gives unary_fits binary_fits f k here c o Homes Lives kinds base world used (core.binary b.LogOr left right int_type at) low high (tree.variable (variable_number own) int_type) in
      let end = ce.point_at point.End at here in
      let ls = tree.set (variable_number own) (tree.number 1 int_type) ∷ [] in
      let rs = branch unary_fits binary_fits f k here c o Homes Lives kinds base world at zs own (tree.cast type.Bool z) in
      let fork = tree.fork saved (piece_row ls) (piece_row rs) end in
      on_same f k R Q xs (us ++ (fork ∷ [])) q (λ v s1 n1. ce.joined b.LogOr (kind_of left) v (kind_of right) true at here r s1 n1) t n h (λ v s w t1 a. a.done.on_)
      (λ v s w t1 n1 le a.
      let d = drop v s w t1 a in
      let core_part = if is_true v then ce.first_alone true at here true s n1 else ce.both true at here r s n1 in
      goes_first f k Q us (fork ∷ []) core_part t1 d.0 n1 d.1
      (same_as k Q core_part (then_ (if is_true v then run_of f ls d.0 n1 else run_of f rs d.0 n1) (λ w t2 n2. behind_fork w end t2 n2)) (run_of f (fork ∷ []) d.0 n1) (fork_run f saved ls rs end d.0 n1 v d.4)
      (same_more k k (D own) Q core_part (then_ (if is_true v then run_of f ls d.0 n1 else run_of f rs d.0 n1) (λ w t2 n2. behind_fork w end t2 n2)) (le_refl k)
      (λ u s2 w2 t2 m. record { done = m.done; value = λ z. record { same = ap is m.number; type = refl; types = kind_; reads = inr (low_own, own_high) } })
      (either_same k (D own) (is_true v) (ce.first_alone true at here true s n1) (ce.both true at here r s n1) (run_of f ls d.0 n1) (run_of f rs d.0 n1) (λ w t2 n2. behind_fork w end t2 n2)
      (first_alone_same true own at s d.0 n1 le base_own kind_ d.2 d.3)
      (both_same right own low2 high2 at z zs r s d.0 n1 le base_own kind_ d.2 d.3 second)))))
