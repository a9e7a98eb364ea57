-- Subscripts that fit, and still do when there are more arrays.
use Rattle.std.proofs.Common.{◌≡◌, ◌∙◌, ℕ, suc, refl, ap, List, [], ◌∷◌, ◌++◌, length, Option, Some, None}
use Rattle.c_token.specs.declared.ctype.CType.{CType}
use Rattle.hls_base.specs.declared.number.ArrayId.{ArrayId}
use Rattle.pieces.specs.Trees as tree
use Rattle.pieces.specs.Trees.{PureTree, PureTrees, row, PieceTree, PieceTrees, piece_row}
use Rattle.pieces.specs.Program.{ArrayTree}
use Rattle.piece_making.specs.declared.frame.Home.{Home}
use Rattle.piece_making.specs.declared.frame.Home.TheVariants as home
use Rattle.piece_making.specs.Calls.{read_of}
use Rattle.expand_runs.specs.Growing.{Begins}
use Rattle.sound_trees.specs.Subscripts as pure
use Rattle.sound_trees.specs.Subscripts.{HasDimensions, SubscriptsFit, AllSubscriptsFit, PieceSubscriptsFit, PiecesSubscriptsFit}

pub count_row : (xs : List PureTree) → pure.count (row xs) ≡ length xs
count_row [] = refl
count_row (x ∷ xs) = ap suc (count_row xs)

module _ (arrays : List ArrayTree) where
  -- as many dimensions, counted in another way
  pub dimensions_same : (array : ArrayId) (n m : ℕ) → m ≡ n → HasDimensions arrays array n → HasDimensions arrays array m
  dimensions_same array n m e h = (h.0, h.1, e ∙ h.2)

  pub row_more : (xs : List PureTree) (x : PureTree) → AllSubscriptsFit arrays (row xs) → SubscriptsFit arrays x → AllSubscriptsFit arrays (row (xs ++ x ∷ []))
  row_more [] x h g = (g, tt)
  row_more (y ∷ xs) x h g = (h.0, row_more xs x h.1 g)

  pub pieces_append : (xs ys : List PieceTree) → PiecesSubscriptsFit arrays (piece_row xs) → PiecesSubscriptsFit arrays (piece_row ys) → PiecesSubscriptsFit arrays (piece_row (xs ++ ys))
  pieces_append [] ys h g = g
  pieces_append (x ∷ xs) ys h g = (h.0, pieces_append xs ys h.1 g)

  -- a scalar that is read has no subscripts
  pub read_fits : (h : Option Home) (k : CType) → SubscriptsFit arrays (read_of h k)
  read_fits None k = tt
  read_fits (Some (home.Variable own)) k = tt
  read_fits (Some (home.Constant word)) k = tt
  read_fits (Some (home.Array a)) k = tt
  read_fits (Some (home.Local slot)) k = tt

-- ---- more arrays

module _ (some more : List ArrayTree) (begins : Begins some more) where
  pub dimensions_more : (n : ℕ) (array : ArrayId) → HasDimensions some array n → HasDimensions more array n
  dimensions_more n array h = (h.0, begins array.0 h.0 h.1, h.2)

  mutual
    pub fits_more : (x : PureTree) → SubscriptsFit some x → SubscriptsFit more x
    fits_more (tree.number v k) h = tt
    fits_more (tree.variable name k) h = tt
    fits_more (tree.element array subscripts k at) h = (dimensions_more _ array h.0, each_more subscripts h.1)
    fits_more (tree.unary op arg k at) h = fits_more arg h
    fits_more (tree.binary op left right k at) h = (fits_more left h.0, fits_more right h.1)
    fits_more (tree.choice test left right k) h = (fits_more test h.0, fits_more left h.1, fits_more right h.2)
    fits_more (tree.cast to arg) h = fits_more arg h

    pub each_more : (xs : PureTrees) → AllSubscriptsFit some xs → AllSubscriptsFit more xs
    each_more tree.none h = tt
    each_more (tree.more first rest) h = (fits_more first h.0, each_more rest h.1)

  mutual
    piece_more : (p : PieceTree) → PieceSubscriptsFit some p → PieceSubscriptsFit more p
    piece_more (tree.set name value) h = fits_more value h
    piece_more (tree.put array subscripts value at) h = (dimensions_more _ array h.0, each_more subscripts h.1, fits_more value h.2)
    piece_more (tree.fork test left right end) h = (fits_more test h.0, pieces_more left h.1, pieces_more right h.2)
    piece_more (tree.repeat_ id post before test body step end) h = (pieces_more before h.0, fits_more test h.1, pieces_more body h.2, pieces_more step h.3)
    piece_more (tree.pick test labels body end) h = (fits_more test h.0, pieces_more body h.1)
    piece_more tree.break_ h = tt
    piece_more tree.next_ h = tt
    piece_more (tree.leave call) h = tt
    piece_more (tree.land call end) h = tt
    piece_more (tree.mark point) h = tt

    pub pieces_more : (ps : PieceTrees) → PiecesSubscriptsFit some ps → PiecesSubscriptsFit more ps
    pieces_more tree.no_pieces h = tt
    pieces_more (tree.then_ first rest) h = (piece_more first h.0, pieces_more rest h.1)
