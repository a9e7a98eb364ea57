-- Saving makes variables, and takes none away.
use Rattle.std.proofs.Common.{ℕ, Bool, true, false, List, [], ◌∷◌, ◌++◌, ◌&&◌, ◌||◌}
use Rattle.std.specs.Prelude.{nat_lt}
use Rattle.pieces.specs.Trees as tree
use Rattle.pieces.specs.Trees.{PureTree, PureTrees, row}
use Rattle.pieces.specs.Kind.{kind}
use Rattle.piece_making.specs.Making.{State, Part, gives, then_, set_own}
use Rattle.piece_making.specs.Saving.{has_element, is_logical, saved, all_saved, saved_if, saved_binary, saved_choice}
use Rattle.expand_runs.specs.Growing.{IsLater}
use Rattle.expand_runs.proofs.Growing.{later_same, later_then, later_own}

later_if : (whole : Bool) (x : PureTree) (parts : State → Part PureTree) (s : State) → IsLater s (parts s).state → IsLater s (saved_if whole x parts s).state
later_if true x parts s h = later_own (kind x) x s
later_if false x parts s h = h

mutual
  pub saved_later : (n : ℕ) (calls : Bool) (x : PureTree) (s : State) → IsLater s (saved n calls x s).state
  saved_later n calls (tree.number v k) s = later_same s
  saved_later n calls (tree.variable name k) s = later_if (calls && nat_lt name.0 n) (tree.variable name k) (λ s1. gives (tree.variable name k) s1) s (later_same s)
  saved_later n calls (tree.element array subscripts k at) s =
      later_then s (all_saved n calls subscripts [] s) (λ given s1. set_own k (tree.element array (row given) k at) s1) (all_later n calls subscripts [] s)
      (later_own k (tree.element array (row (all_saved n calls subscripts [] s).value) k at) (all_saved n calls subscripts [] s).state)
  saved_later n calls (tree.unary op arg k at) s = later_then s (saved n calls arg s) (λ x s1. gives (tree.unary op x k at) s1) (saved_later n calls arg s) (later_same _)
  saved_later n calls (tree.binary op left right k at) s =
      let x = saved n calls left s in
      let y = saved n calls right x.state in
      later_then s x (λ x1 s1. saved_binary op k at x1 right (saved n calls right) s1) (saved_later n calls left s)
      (later_if (is_logical op && has_element right) (tree.binary op x.value right k at) (λ s1. then_ (saved n calls right s1) (λ y1 s2. gives (tree.binary op x.value y1 k at) s2)) x.state
      (later_then x.state y (λ y1 s2. gives (tree.binary op x.value y1 k at) s2) (saved_later n calls right x.state) (later_same _)))
  saved_later n calls (tree.choice test left right k) s =
      let t = saved n calls test s in
      let x = saved n calls left t.state in
      let y = saved n calls right x.state in
      later_then s t (λ t1 s1. saved_choice k t1 left right (saved n calls left) (saved n calls right) s1) (saved_later n calls test s)
      (later_if (has_element left || has_element right) (tree.choice t.value left right k)
      (λ s1. then_ (saved n calls left s1) (λ x1 s2. then_ (saved n calls right s2) (λ y1 s3. gives (tree.choice t.value x1 y1 k) s3))) t.state
      (later_then t.state x (λ x1 s2. then_ (saved n calls right s2) (λ y1 s3. gives (tree.choice t.value x1 y1 k) s3)) (saved_later n calls left t.state)
      (later_then x.state y (λ y1 s3. gives (tree.choice t.value x.value y1 k) s3) (saved_later n calls right x.state) (later_same _))))
  saved_later n calls (tree.cast to arg) s = later_then s (saved n calls arg s) (λ x s1. gives (tree.cast to x) s1) (saved_later n calls arg s) (later_same _)

  pub all_later : (n : ℕ) (calls : Bool) (xs : PureTrees) (before : List PureTree) (s : State) → IsLater s (all_saved n calls xs before s).state
  all_later n calls tree.none before s = later_same s
  all_later n calls (tree.more first rest) before s =
      let x = saved n calls first s in
      later_then s x (λ y s1. all_saved n calls rest (before ++ y ∷ []) s1) (saved_later n calls first s) (all_later n calls rest (before ++ x.value ∷ []) x.state)
