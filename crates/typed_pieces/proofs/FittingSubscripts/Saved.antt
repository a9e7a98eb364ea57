-- Saved values have subscripts that fit.
use Rattle.std.proofs.Common.{◌≡◌, refl, ℕ, suc, ◌+◌, Bool, true, false, ◌&&◌, ◌||◌, arith, List, [], ◌∷◌, ◌++◌, length}
use Rattle.std.proofs.lemmas.List.{length-append}
use Rattle.std.specs.Prelude.{nat_lt}
use Rattle.pieces.specs.Trees as tree
use Rattle.pieces.specs.Trees.{PureTree, PureTrees, row}
use Rattle.pieces.specs.Kind.{kind}
use Rattle.piece_making.specs.declared.effects.Effects.{Effects}
use Rattle.piece_making.specs.Acting.{spoils}
use Rattle.piece_making.specs.Making.{State, Part, gives, then_}
use Rattle.piece_making.specs.Saving.{has_element, is_logical, saved, all_saved, saved_if, save}
use Rattle.sound_trees.specs.Subscripts as pure
use Rattle.sound_trees.specs.Subscripts.{SubscriptsFit, AllSubscriptsFit}
use Rattle.typed_pieces.specs.FittingSubscripts.Worlds.{World, Knows, Makes, Value}
use Rattle.typed_pieces.proofs.FittingSubscripts.Fitting.{count_row, dimensions_same, row_more}
use Rattle.typed_pieces.proofs.FittingSubscripts.Parts.{then_makes, gives_makes, known, if_makes, own_makes, fits_later, each_later, array_later}

-- so many expressions whose subscripts fit
pub record Operands (n : ℕ) (s : State) (xs : List PureTree) : Type 0 where
  pub fit : AllSubscriptsFit s.arrays (row xs)
  pub count : n ≡ length xs

abbrev pub OperandsAt : ℕ → Knows (List PureTree)
OperandsAt n s w xs = Operands n s xs

pub longer : (before : List PureTree) (y : PureTree) (n m : ℕ) → length (before ++ y ∷ []) + n ≡ m → length before + suc n ≡ m
longer before y n m le = let e = length-append before (y ∷ []) in omega (arith, e, le)

pub row_count : (n m : ℕ) (xs : List PureTree) → n ≡ m → 0 + n ≡ length xs → pure.count (row xs) ≡ m
row_count n m xs h e = let q = count_row xs in omega (arith, h, e, q)

saved_if_makes : (whole : Bool) (x : PureTree) (parts : State → Part PureTree) (s : State) (w : World s) → SubscriptsFit s.arrays x → Makes Value s w (parts s) → Makes Value s w (saved_if whole x parts s)
saved_if_makes true x parts s w h p = own_makes (kind x) x s w h
saved_if_makes false x parts s w h p = p

mutual
  saved_makes : (n : ℕ) (calls : Bool) (x : PureTree) (s : State) (w : World s) → SubscriptsFit s.arrays x → Makes Value s w (saved n calls x s)
  saved_makes n calls (tree.number v k) s w h = gives_makes tt
  saved_makes n calls (tree.variable name k) s w h = saved_if_makes (calls && nat_lt name.0 n) (tree.variable name k) (λ s1. gives (tree.variable name k) s1) s w tt (gives_makes tt)
  saved_makes n calls (tree.element array given k at) s w h =
      then_makes (all_makes n calls given [] s w h.1 tt)
      (λ xs s1 w1 l v. own_makes k (tree.element array (row xs) k at) s1 w1 (dimensions_same s1.arrays array (pure.count given) (pure.count (row xs)) (row_count (pure.count given) (pure.count given) xs refl v.count) (array_later l array (pure.count given) h.0), v.fit))
  saved_makes n calls (tree.unary op arg k at) s w h = then_makes (saved_makes n calls arg s w h) (λ x s1 w1 l v. gives_makes v)
  saved_makes n calls (tree.binary op left right k at) s w h =
      then_makes (saved_makes n calls left s w h.0)
      (λ x s1 w1 l v. saved_if_makes (is_logical op && has_element right) (tree.binary op x right k at) (λ s2. then_ (saved n calls right s2) (λ y s3. gives (tree.binary op x y k at) s3)) s1 w1 (v, fits_later l right h.1)
      (then_makes (saved_makes n calls right s1 w1 (fits_later l right h.1)) (λ y s2 w2 l2 u. gives_makes (fits_later l2 x v, u))))
  saved_makes n calls (tree.choice test left right k) s w h =
      then_makes (saved_makes n calls test s w h.0)
      (λ t s1 w1 l v. saved_if_makes (has_element left || has_element right) (tree.choice t left right k) (λ s2. then_ (saved n calls left s2) (λ x s3. then_ (saved n calls right s3) (λ y s4. gives (tree.choice t x y k) s4))) s1 w1 (v, fits_later l left h.1, fits_later l right h.2)
      (then_makes (saved_makes n calls left s1 w1 (fits_later l left h.1))
      (λ x s2 w2 l2 u. then_makes (saved_makes n calls right s2 w2 (fits_later l2 right (fits_later l right h.2)))
      (λ y s3 w3 l3 q. gives_makes (fits_later l3 t (fits_later l2 t v), fits_later l3 x u, q)))))
  saved_makes n calls (tree.cast to arg) s w h = then_makes (saved_makes n calls arg s w h) (λ x s1 w1 l v. gives_makes v)

  all_makes : (n : ℕ) (calls : Bool) (xs : PureTrees) (before : List PureTree) (s : State) (w : World s) → AllSubscriptsFit s.arrays xs → AllSubscriptsFit s.arrays (row before) → Makes (OperandsAt (length before + pure.count xs)) s w (all_saved n calls xs before s)
  all_makes n calls tree.none before s w h b = gives_makes (record { fit = b; count = omega arith })
  all_makes n calls (tree.more first rest) before s w h b =
      then_makes (saved_makes n calls first s w h.0)
      (λ x s1 w1 l v. known (all_makes n calls rest (before ++ x ∷ []) s1 w1 (each_later l rest h.1) (row_more s1.arrays before x (each_later l (row before) b) v))
      (λ s2 w2 l2 q. record { fit = q.fit; count = longer before x (pure.count rest) _ q.count }))

pub save_makes : (n : ℕ) (x : PureTree) (later : Effects) (s : State) (w : World s) → SubscriptsFit s.arrays x → Makes Value s w (save n x later s)
save_makes n x later s w h = if_makes (spoils later) (saved n later.calls x s) (gives x s) s w (saved_makes n later.calls x s w h) (gives_makes h)
