-- Values are saved by pieces that set no table.
use Rattle.std.proofs.Common.{ℕ, Bool, true, false, ◌&&◌, ◌||◌, List, [], ◌∷◌, ◌++◌}
use Rattle.std.specs.Prelude.{nat_lt}
use Rattle.pieces.specs.Trees as tree
use Rattle.pieces.specs.Trees.{PureTree, PureTrees, row}
use Rattle.pieces.specs.Kind.{kind}
use Rattle.piece_making.specs.declared.effects.Effects.{Effects}
use Rattle.piece_making.specs.Acting.{spoils}
use Rattle.piece_making.specs.Making.{State, Part, gives, then_}
use Rattle.piece_making.specs.Saving.{has_element, is_logical, saved, all_saved, saved_if, save}
use Rattle.source_validity.specs.KeptTables.Worlds.{World, Makes, Whatever}
use Rattle.source_validity.proofs.KeptTables.Parts.{then_makes, gives_makes, if_makes, own_makes}

saved_if_makes : (whole : Bool) (x : PureTree) (parts : State → Part PureTree) (s : State) → World s → Makes Whatever s (parts s) → Makes Whatever s (saved_if whole x parts s)
saved_if_makes true x parts s w p = own_makes (kind x) x s w
saved_if_makes false x parts s w p = p

mutual
  saved_makes : (n : ℕ) (calls : Bool) (x : PureTree) (s : State) → World s → Makes Whatever s (saved n calls x s)
  saved_makes n calls (tree.number v k) s w = gives_makes w tt
  saved_makes n calls (tree.variable name k) s w = saved_if_makes (calls && nat_lt name.0 n) (tree.variable name k) (λ s1. gives (tree.variable name k) s1) s w (gives_makes w tt)
  saved_makes n calls (tree.element array given k at) s w = then_makes (all_makes n calls given [] s w) (λ xs s1 w1 l v. own_makes k (tree.element array (row xs) k at) s1 w1)
  saved_makes n calls (tree.unary op arg k at) s w = then_makes (saved_makes n calls arg s w) (λ x s1 w1 l v. gives_makes w1 tt)
  saved_makes n calls (tree.binary op left right k at) s w =
      then_makes (saved_makes n calls left s w)
      (λ x s1 w1 l v. saved_if_makes (is_logical op && has_element right) (tree.binary op x right k at) (λ s2. then_ (saved n calls right s2) (λ y s3. gives (tree.binary op x y k at) s3)) s1 w1
      (then_makes (saved_makes n calls right s1 w1) (λ y s2 w2 l2 u. gives_makes w2 tt)))
  saved_makes n calls (tree.choice test left right k) s w =
      then_makes (saved_makes n calls test s w)
      (λ t s1 w1 l v. saved_if_makes (has_element left || has_element right) (tree.choice t left right k) (λ s2. then_ (saved n calls left s2) (λ x s3. then_ (saved n calls right s3) (λ y s4. gives (tree.choice t x y k) s4))) s1 w1
      (then_makes (saved_makes n calls left s1 w1) (λ x s2 w2 l2 u. then_makes (saved_makes n calls right s2 w2) (λ y s3 w3 l3 q. gives_makes w3 tt))))
  saved_makes n calls (tree.cast to arg) s w = then_makes (saved_makes n calls arg s w) (λ x s1 w1 l v. gives_makes w1 tt)

  all_makes : (n : ℕ) (calls : Bool) (xs : PureTrees) (before : List PureTree) (s : State) → World s → Makes Whatever s (all_saved n calls xs before s)
  all_makes n calls tree.none before s w = gives_makes w tt
  all_makes n calls (tree.more first rest) before s w = then_makes (saved_makes n calls first s w) (λ x s1 w1 l v. all_makes n calls rest (before ++ x ∷ []) s1 w1)

pub save_makes : (n : ℕ) (x : PureTree) (later : Effects) (s : State) → World s → Makes Whatever s (save n x later s)
save_makes n x later s w = if_makes (spoils later) (saved n later.calls x s) (gives x s) s (saved_makes n later.calls x s w) (gives_makes w tt)
