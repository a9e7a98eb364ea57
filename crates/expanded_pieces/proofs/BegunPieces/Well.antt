-- Pieces that are well wherever they stand, where the variables that are hidden there are among some.
use Rattle.std.proofs.Common.{◌≡◌, ◌<◌, ◌≤◌, ℕ, ◌+◌, Bool, true, false, List, [], ◌∷◌, ◌++◌, length, sym, subst, arith}
use Rattle.hls_base.specs.declared.point.Point.{Point}
use Rattle.pieces.specs.declared.piece.Label.{Label}
use Rattle.pieces.specs.Trees as tree
use Rattle.pieces.specs.Trees.{PieceTree, PieceTrees, piece_row}
use Rattle.passes.specs.Lowering.{is_named}
use Rattle.pass_runs.specs.LowerRuns.LoweredTrees.Fitting.{ends_in, ends_before_arm}
use Rattle.pass_runs.specs.LowerRuns.Suiting.{hidden_behind, ArmBy}
use Rattle.expanded_pieces.specs.BegunPieces.Beginning.{IsBegun, BeginsWell, AreBegun, ArmsAreBegun}
use Rattle.expanded_pieces.proofs.BegunPieces.Hiding.{Below, behind_below}
use Rattle.expanded_pieces.proofs.BegunPieces.Ends.{EachEnd, AllEnds, OwnEnds, IsNot, Apart, AllApart, own_all, own_append, each_in, each_before_arm, is_apart}
use Rattle.expanded_pieces.proofs.BegunPieces.Agreeing.{Agrees, AllAgree, FirstAgree, ArmsAgree, ArmAgrees}

-- no call that ends among these pieces ends within the piece before them
abbrev pub Behind : PieceTree → List PieceTree → Type 0
Behind x xs = OwnEnds (λ j. EachEnd (IsNot j) x) xs

abbrev pub IsMark : PieceTree → Type 0
IsMark (tree.mark point) = Unit {0}
IsMark piece = ⊥

module _ (kept : Point → Bool) (hidden : ℕ → Bool) where
  abbrev pub Good : PieceTree → Type 0
  Good x = (lands : List ℕ) (h : ℕ → Bool) → Agrees kept x → Apart lands x → Below h hidden → IsBegun kept lands h x

  abbrev pub AllGood : List PieceTree → Type 0
  AllGood [] = Unit {0}
  AllGood (x ∷ xs) = Good x × Behind x xs × AllGood xs

  pub good_append : (xs ys : List PieceTree) → AllGood xs → AllGood ys → OwnEnds (λ j. AllEnds (IsNot j) (piece_row xs)) ys → AllGood (xs ++ ys)
  good_append [] ys h g c = g
  good_append (x ∷ xs) ys h g c = (
    h.0,
    own_append (λ j. EachEnd (IsNot j) x) xs ys h.1 (own_all (λ j. AllEnds (IsNot j) (piece_row (x ∷ xs))) (λ j. EachEnd (IsNot j) x) (λ j n. n.0) ys c),
    good_append xs ys h.2 g (own_all (λ j. AllEnds (IsNot j) (piece_row (x ∷ xs))) (λ j. AllEnds (IsNot j) (piece_row xs)) (λ j n. n.1) ys c),
  )

  pub are_begun : (xs : List PieceTree) → AllGood xs → (lands : List ℕ) (outside h : ℕ → Bool) → AllAgree kept (piece_row xs) → AllApart lands (piece_row xs) → Below outside hidden → Below h hidden → AreBegun kept lands outside h (piece_row xs)
  are_begun [] g lands outside h a apart o b = tt
  are_begun (x ∷ xs) g lands outside h a apart o b = (
    g.0 (ends_in (piece_row xs) lands) h a.0 (λ j e. each_in (λ i. EachEnd (IsNot i) x) lands (λ i q. (apart i q).0) xs g.1 j e) b,
    are_begun xs g.2 lands outside (hidden_behind outside h x) a.1 (λ j e. (apart j e).1) o (behind_below outside h hidden o b x),
  )

  pub begins_well : (point : Point) (xs : List PieceTree) → AllGood xs → (lands : List ℕ) (h : ℕ → Bool) → FirstAgree kept (piece_row (tree.mark point ∷ xs)) → AllApart lands (piece_row (tree.mark point ∷ xs)) → Below h hidden
      → BeginsWell kept lands h (piece_row (tree.mark point ∷ xs))
  begins_well point xs g lands h a apart b = (a.0, are_begun xs g lands h h a.1 (λ j e. (apart j e).1) b b)

  -- ---- in a switch

  abbrev pub ArmGood : Bool → PieceTree → Type 0
  ArmGood true x = IsMark x
  ArmGood false x = Good x

  abbrev pub AllArms : List Label → ℕ → List PieceTree → Type 0
  AllArms labels i [] = Unit {0}
  AllArms labels i (x ∷ xs) = ArmGood (is_named labels i) x × Behind x xs × AllArms labels (i + 1) xs

  arm_begun : (named : Bool) (x : PieceTree) (lands : List ℕ) (h : ℕ → Bool) → ArmGood named x → ArmAgrees kept named x (Agrees kept x) → Apart lands x → Below h hidden → ArmBy kept named x (IsBegun kept lands h x)
  arm_begun true (tree.mark point) lands h g a apart b = a
  arm_begun true x lands h g a apart b = absurd g
  arm_begun false x lands h g a apart b = g lands h a apart b

  pub arms_are_begun : (labels : List Label) (i : ℕ) (xs : List PieceTree) → AllArms labels i xs → (lands : List ℕ) (h : ℕ → Bool) → ArmsAgree kept labels i (piece_row xs) → AllApart lands (piece_row xs) → Below h hidden
      → ArmsAreBegun kept labels i lands h (piece_row xs)
  arms_are_begun labels i [] g lands h a apart b = tt
  arms_are_begun labels i (x ∷ xs) g lands h a apart b = (
    arm_begun (is_named labels i) x (ends_before_arm labels (i + 1) (piece_row xs) lands) h g.0 a.0
        (λ j e. each_before_arm (λ n. EachEnd (IsNot n) x) lands (λ n q. (apart n q).0) labels (i + 1) xs g.1 j e) b,
    is_apart lands x (λ j e. (apart j e).0),
    arms_are_begun labels (i + 1) xs g.2 lands h a.1 (λ j e. (apart j e).1) b,
  )

  pub arms_append : (labels : List Label) (i n : ℕ) (xs ys : List PieceTree) → n ≡ i + length xs → AllArms labels i xs → AllArms labels n ys → OwnEnds (λ j. AllEnds (IsNot j) (piece_row xs)) ys → AllArms labels i (xs ++ ys)
  arms_append labels i n [] ys e h g c = subst (λ k. AllArms labels k ys) (let same : n ≡ i = omega (arith, e) in same) g
  arms_append labels i n (x ∷ xs) ys e h g c = (
    h.0,
    own_append (λ j. EachEnd (IsNot j) x) xs ys h.1 (own_all (λ j. AllEnds (IsNot j) (piece_row (x ∷ xs))) (λ j. EachEnd (IsNot j) x) (λ j m. m.0) ys c),
    arms_append labels (i + 1) n xs ys (omega (arith, e)) h.2 g (own_all (λ j. AllEnds (IsNot j) (piece_row (x ∷ xs))) (λ j. AllEnds (IsNot j) (piece_row xs)) (λ j m. m.1) ys c),
  )

  -- pieces none of which is named
  pub arms_of : (labels : List Label) (i n : ℕ) (xs : List PieceTree) → n ≡ i + length xs → AllGood xs → ((j : ℕ) → i ≤ j → j < n → is_named labels j ≡ false) → AllArms labels i xs
  arms_of labels i n [] e g quiet = tt
  arms_of labels i n (x ∷ xs) e g quiet = (
    subst (λ b. ArmGood b x) (sym (quiet i (omega arith) (omega (arith, e)))) g.0,
    g.1,
    arms_of labels (i + 1) n xs (omega (arith, e)) g.2 (λ j le lt. quiet j (omega (arith, le)) lt),
  )
