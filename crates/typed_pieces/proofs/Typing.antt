-- Expressions and pieces that have the types of what they name, node by node and with more variables and arrays.
use Rattle.std.proofs.Common.{◌≡◌, ◌∙◌, ◌<◌, ℕ, ◌^◌, refl, ap, sym, subst, pos, List, [], ◌∷◌, ◌++◌, slice_get, Some}
use Rattle.hls_base.specs.declared.place.Place.{Place}
use Rattle.hls_base.specs.declared.number.VarId.{VarId}
use Rattle.hls_base.specs.declared.number.ArrayId.{ArrayId}
use Rattle.c_token.specs.declared.ctype.CType.{CType}
use Rattle.c_tree.specs.declared.operator.Unary.{Unary}
use Rattle.c_tree.specs.declared.operator.Binary.{Binary}
use Rattle.c_value.specs.Values.{IsOf, width, number_of}
use Rattle.c_value.specs.Operators.{unary_kind, binary_kind}
use Rattle.pieces.specs.Trees as tree
use Rattle.pieces.specs.Trees.{PureTree, PureTrees, PieceTree, PieceTrees, row, piece_row}
use Rattle.pieces.specs.Kind.{kind}
use Rattle.pieces.specs.Program.{ArrayTree}
use Rattle.c_meaning.specs.PieceRuns.Pieces.{Frame, kind_in, kind_at}
use Rattle.expand_runs.specs.Growing.{Begins}
use Rattle.expand_runs.specs.Reading.{IsNumber}
use Rattle.pass_runs.specs.LowerRuns.OperatorWords.Words.{IsType}
use Rattle.pass_runs.proofs.LowerRuns.OperatorWords.Results.{word_of}
use Rattle.pass_runs.proofs.LowerRuns.OperatorWords.Resizing.{count_is}
use Rattle.pass_runs.proofs.LowerRuns.OperatorWords.Conversions.{converted_number, natural_below}
use Rattle.pass_runs.specs.LowerRuns.Suits.{scope_of}
use Rattle.pass_runs.specs.ConvertRuns.LoweredConversions.Suiting.{PieceSuits}
use Rattle.typed_pieces.specs.Typed.{IsTyped, AreTyped, PieceTyped, PiecesTyped}
use Rattle.typed_pieces.specs.Laws.{TypedPiecesSuit}
use Rattle.typed_pieces.specs.Worlds.{HasArray}

-- ---- nodes

kind_found : (arrays : List ArrayTree) (i : ℕ) (a : ArrayTree) (k : CType) → slice_get arrays i ≡ Some a → a.kind ≡ k → kind_at arrays i ≡ k
kind_found arrays i a k e h = ap kind_in e ∙ h

-- a number that is its own word is below 2 to the bits of its type
pub word_below : (k : CType) (v : ℕ) → number_of k v ≡ pos v → IsNumber k (number_of k v) → v < 2 ^ width k
word_below k v e n = natural_below k v (subst (IsOf k) e (subst (IsOf k) n (converted_number k (number_of k v))))

module _ (f : Frame) where
  pub number_typed : (k : CType) (v : ℕ) → IsType k → v < 2 ^ width k → IsTyped f (tree.number v k)
  number_typed k v t h = ((t, word_of k v h), subst (λ n. v < n) (sym (count_is k)) h)

  pub variable_typed : (name : VarId) (k : CType) → IsType k → slice_get f.variables name.0 ≡ Some k → IsTyped f (tree.variable name k)
  variable_typed name k t h = ((t, h, refl), h)

  pub element_typed : (array : ArrayId) (subscripts : PureTrees) (k : CType) (at : Place) → IsType k → HasArray f array k → AreTyped f subscripts → IsTyped f (tree.element array subscripts k at)
  element_typed array subscripts k at t h xs = ((t, kind_found f.arrays array.0 h.0 k h.1 h.2, xs.0), ((h.0, h.1, h.2), xs.1))

  pub unary_typed : (op : Unary) (x : PureTree) (k : CType) (at : Place) → IsType k → unary_kind op (kind x) ≡ k → IsTyped f x → IsTyped f (tree.unary op x k at)
  unary_typed op x k at t e h = ((t, e, h.0), h.1)

  pub binary_typed : (op : Binary) (x y : PureTree) (k : CType) (at : Place) → IsType k → binary_kind op (kind x) (kind y) ≡ k → IsTyped f x → IsTyped f y → IsTyped f (tree.binary op x y k at)
  binary_typed op x y k at t e h g = ((t, e, h.0, g.0), (h.1, g.1))

  pub choice_typed : (test x y : PureTree) (k : CType) → IsType k → IsTyped f test → IsTyped f x → IsTyped f y → IsTyped f (tree.choice test x y k)
  choice_typed test x y k t c h g = ((t, c.0, h.0, g.0), (c.1, h.1, g.1))

  pub cast_typed : (to : CType) (x : PureTree) → IsType to → IsTyped f x → IsTyped f (tree.cast to x)
  cast_typed to x t h = ((t, h.0), h.1)

  pub kind_type : (x : PureTree) → IsTyped f x → IsType (kind x)
  kind_type (tree.number v k) h = h.0.0
  kind_type (tree.variable name k) h = h.0.0
  kind_type (tree.element array subscripts k at) h = h.0.0
  kind_type (tree.unary op arg k at) h = h.0.0
  kind_type (tree.binary op left right k at) h = h.0.0
  kind_type (tree.choice test left right k) h = h.0.0
  kind_type (tree.cast to arg) h = h.0.0

  pub row_more : (xs : List PureTree) (x : PureTree) → AreTyped f (row xs) → IsTyped f x → AreTyped f (row (xs ++ x ∷ []))
  row_more [] x h g = ((g.0, tt), (g.1, tt))
  row_more (y ∷ xs) x h g = let rest = row_more xs x (h.0.1, h.1.1) g in ((h.0.0, rest.0), (h.1.0, rest.1))

  pub pieces_append : (xs ys : List PieceTree) → PiecesTyped f (piece_row xs) → PiecesTyped f (piece_row ys) → PiecesTyped f (piece_row (xs ++ ys))
  pieces_append [] ys h g = g
  pieces_append (x ∷ xs) ys h g = (h.0, pieces_append xs ys h.1 g)

-- ---- more variables and arrays

module _ (f g : Frame) (variables : Begins f.variables g.variables) (arrays : Begins f.arrays g.arrays) where
  mutual
    pub typed_more : (x : PureTree) → IsTyped f x → IsTyped g x
    typed_more (tree.number v k) h = h
    typed_more (tree.variable name k) h = variable_typed g name k h.0.0 (variables name.0 k h.1)
    typed_more (tree.element array subscripts k at) h = let a = h.1.0 in element_typed g array subscripts k at h.0.0 (a.0, arrays array.0 a.0 a.1, a.2) (each_more subscripts (h.0.2, h.1.1))
    typed_more (tree.unary op arg k at) h = unary_typed g op arg k at h.0.0 h.0.1 (typed_more arg (h.0.2, h.1))
    typed_more (tree.binary op left right k at) h = binary_typed g op left right k at h.0.0 h.0.1 (typed_more left (h.0.2, h.1.0)) (typed_more right (h.0.3, h.1.1))
    typed_more (tree.choice test left right k) h = choice_typed g test left right k h.0.0 (typed_more test (h.0.1, h.1.0)) (typed_more left (h.0.2, h.1.1)) (typed_more right (h.0.3, h.1.2))
    typed_more (tree.cast to arg) h = cast_typed g to arg h.0.0 (typed_more arg (h.0.1, h.1))

    pub each_more : (xs : PureTrees) → AreTyped f xs → AreTyped g xs
    each_more tree.none h = (tt, tt)
    each_more (tree.more first rest) h =
        let x = typed_more first (h.0.0, h.1.0) in
        let xs = each_more rest (h.0.1, h.1.1) in
        ((x.0, xs.0), (x.1, xs.1))

  mutual
    piece_more : (p : PieceTree) → PieceTyped f p → PieceTyped g p
    piece_more (tree.set name value) h = ((h.0.0, variables name.0 h.0.0 h.0.1), typed_more value h.1)
    piece_more (tree.put array subscripts value at) h = ((h.0.0, arrays array.0 h.0.0 h.0.1), each_more subscripts h.1, typed_more value h.2)
    piece_more (tree.fork test left right end) h = (typed_more test h.0, pieces_more left h.1, pieces_more right h.2)
    piece_more (tree.repeat_ id post before test body step end) h = (pieces_more before h.0, typed_more test h.1, pieces_more body h.2, pieces_more step h.3)
    piece_more (tree.pick test labels body end) h = (typed_more test h.0, pieces_more body h.1, h.2)
    piece_more tree.break_ h = tt
    piece_more tree.next_ h = tt
    piece_more (tree.leave call) h = tt
    piece_more (tree.land call end) h = tt
    piece_more (tree.mark point) h = tt

    pub pieces_more : (ps : PieceTrees) → PiecesTyped f ps → PiecesTyped g ps
    pieces_more tree.no_pieces h = tt
    pieces_more (tree.then_ first rest) h = (piece_more first h.0, pieces_more rest h.1)

-- ---- the scope of lowering

mutual
  piece_suits : (f : Frame) (p : PieceTree) → PieceTyped f p → PieceSuits (scope_of f) p
  piece_suits f (tree.set name value) h = h.1.1
  piece_suits f (tree.put array subscripts value at) h = (h.0, h.1.1, h.2.1)
  piece_suits f (tree.fork test left right end) h = (h.0.1, pieces_suit f left h.1, pieces_suit f right h.2)
  piece_suits f (tree.repeat_ id post before test body step end) h = (pieces_suit f before h.0, h.1.1, pieces_suit f body h.2, pieces_suit f step h.3)
  piece_suits f (tree.pick test labels body end) h = (h.0.1, pieces_suit f body h.1)
  piece_suits f tree.break_ h = tt
  piece_suits f tree.next_ h = tt
  piece_suits f (tree.leave call) h = tt
  piece_suits f (tree.land call end) h = tt
  piece_suits f (tree.mark point) h = tt

  pub pieces_suit : TypedPiecesSuit
  pieces_suit f tree.no_pieces h = tt
  pieces_suit f (tree.then_ first rest) h = (piece_suits f first h.0, pieces_suit f rest h.1)
