-- Pieces that fit, one behind another.
use Rattle.std.proofs.Common.{◌≡◌, ◌∙◌, ◌<◌, ◌≤◌, ℕ, ◌+◌, Bool, true, false, List, [], ◌∷◌, ◌++◌, length, refl, ap, sym, subst, arith, if◌then◌else◌}
use Rattle.std.specs.Prelude.{◌==◌}
use Rattle.pieces.specs.declared.piece.Label.{Label}
use Rattle.pieces.specs.Trees as tree
use Rattle.pieces.specs.Trees.{PieceTree, PieceTrees, piece_row}
use Rattle.ir_layout.specs.WellFormed.{Inside, has_number}
use Rattle.passes.specs.Lowering.{is_named}
use Rattle.pass_runs.specs.LowerRuns.LoweredTrees.Fitting.{PieceFits, PiecesFit, ArmPiecesFit, with_ends, ends_in, ends_before_arm}

-- ---- numbers of ends

found_more : (x : ℕ) (xs : List ℕ) (n : ℕ) → has_number xs n ≡ true → has_number (x ∷ xs) n ≡ true
found_more x xs n h = either (n == x) where
  either : (b : Bool) → (if b then true else has_number xs n) ≡ true
  either true = refl
  either false = h

same : (n : ℕ) → (n == n) ≡ true
same n = grind arith

pub found_first : (x : ℕ) (xs : List ℕ) → has_number (x ∷ xs) x ≡ true
found_first x xs = ap (λ b. if b then true else has_number xs x) (same x)

pub ends_more : (xs : PieceTrees) (lands : List ℕ) (n : ℕ) → has_number lands n ≡ true → has_number (ends_in xs lands) n ≡ true
ends_more tree.no_pieces lands n h = h
ends_more (tree.then_ (tree.land call end) rest) lands n h = found_more call.0 (ends_in rest lands) n (ends_more rest lands n h)
ends_more (tree.then_ (tree.set name value) rest) lands n h = ends_more rest lands n h
ends_more (tree.then_ (tree.put array subscripts value at) rest) lands n h = ends_more rest lands n h
ends_more (tree.then_ (tree.fork test first second end) rest) lands n h = ends_more rest lands n h
ends_more (tree.then_ (tree.repeat_ id post before test body step end) rest) lands n h = ends_more rest lands n h
ends_more (tree.then_ (tree.pick test labels body end) rest) lands n h = ends_more rest lands n h
ends_more (tree.then_ tree.break_ rest) lands n h = ends_more rest lands n h
ends_more (tree.then_ tree.next_ rest) lands n h = ends_more rest lands n h
ends_more (tree.then_ (tree.leave call) rest) lands n h = ends_more rest lands n h
ends_more (tree.then_ (tree.mark point) rest) lands n h = ends_more rest lands n h

-- ends of the pieces before and of those behind
ends_one : (x : PieceTree) (xs ys : PieceTrees) (lands more : List ℕ) → ends_in xs lands ≡ ends_in ys more → ends_in (tree.then_ x xs) lands ≡ ends_in (tree.then_ x ys) more
ends_one (tree.land call end) xs ys lands more e = ap (λ (l : List ℕ). call.0 ∷ l) e
ends_one (tree.set name value) xs ys lands more e = e
ends_one (tree.put array subscripts value at) xs ys lands more e = e
ends_one (tree.fork test first second end) xs ys lands more e = e
ends_one (tree.repeat_ id post before test body step end) xs ys lands more e = e
ends_one (tree.pick test labels body end) xs ys lands more e = e
ends_one tree.break_ xs ys lands more e = e
ends_one tree.next_ xs ys lands more e = e
ends_one (tree.leave call) xs ys lands more e = e
ends_one (tree.mark point) xs ys lands more e = e

ends_append : (xs ys : List PieceTree) (lands : List ℕ) → ends_in (piece_row (xs ++ ys)) lands ≡ ends_in (piece_row xs) (ends_in (piece_row ys) lands)
ends_append [] ys lands = refl
ends_append (x ∷ xs) ys lands = ends_one x (piece_row (xs ++ ys)) (piece_row xs) lands (ends_in (piece_row ys) lands) (ends_append xs ys lands)

pub fits_append : (xs ys : List PieceTree) (inside : Inside) → PiecesFit (with_ends (ends_in (piece_row ys) inside.lands) inside) (piece_row xs) → PiecesFit inside (piece_row ys) → PiecesFit inside (piece_row (xs ++ ys))
fits_append [] ys inside h g = g
fits_append (x ∷ xs) ys inside h g = (subst (λ l. PieceFits (with_ends l inside) x) (sym (ends_append xs ys inside.lands)) h.0, fits_append xs ys inside h.1 g)

-- ---- in a switch

module _ (labels : List Label) where
  unnamed_if : {A : Type 0} (b : Bool) (x y : A) → b ≡ false → (if b then x else y) ≡ y
  unnamed_if b x y e = ap (λ c. if c then x else y) e

  found_if : (b : Bool) (lands more : List ℕ) (n : ℕ) → has_number lands n ≡ true → has_number more n ≡ true → has_number (if b then lands else more) n ≡ true
  found_if true lands more n h g = h
  found_if false lands more n h g = g

  pub arm_ends_more : (i : ℕ) (xs : PieceTrees) (lands : List ℕ) (n : ℕ) → has_number lands n ≡ true → has_number (ends_before_arm labels i xs lands) n ≡ true
  arm_ends_more i tree.no_pieces lands n h = h
  arm_ends_more i (tree.then_ (tree.land call end) rest) lands n h =
      found_if (is_named labels i) lands (call.0 ∷ ends_before_arm labels (i + 1) rest lands) n h (found_more call.0 (ends_before_arm labels (i + 1) rest lands) n (arm_ends_more (i + 1) rest lands n h))
  arm_ends_more i (tree.then_ (tree.set name value) rest) lands n h = found_if (is_named labels i) lands (ends_before_arm labels (i + 1) rest lands) n h (arm_ends_more (i + 1) rest lands n h)
  arm_ends_more i (tree.then_ (tree.put array subscripts value at) rest) lands n h = found_if (is_named labels i) lands (ends_before_arm labels (i + 1) rest lands) n h (arm_ends_more (i + 1) rest lands n h)
  arm_ends_more i (tree.then_ (tree.fork test first second end) rest) lands n h = found_if (is_named labels i) lands (ends_before_arm labels (i + 1) rest lands) n h (arm_ends_more (i + 1) rest lands n h)
  arm_ends_more i (tree.then_ (tree.repeat_ id post before test body step end) rest) lands n h = found_if (is_named labels i) lands (ends_before_arm labels (i + 1) rest lands) n h (arm_ends_more (i + 1) rest lands n h)
  arm_ends_more i (tree.then_ (tree.pick test names body end) rest) lands n h = found_if (is_named labels i) lands (ends_before_arm labels (i + 1) rest lands) n h (arm_ends_more (i + 1) rest lands n h)
  arm_ends_more i (tree.then_ tree.break_ rest) lands n h = found_if (is_named labels i) lands (ends_before_arm labels (i + 1) rest lands) n h (arm_ends_more (i + 1) rest lands n h)
  arm_ends_more i (tree.then_ tree.next_ rest) lands n h = found_if (is_named labels i) lands (ends_before_arm labels (i + 1) rest lands) n h (arm_ends_more (i + 1) rest lands n h)
  arm_ends_more i (tree.then_ (tree.leave call) rest) lands n h = found_if (is_named labels i) lands (ends_before_arm labels (i + 1) rest lands) n h (arm_ends_more (i + 1) rest lands n h)
  arm_ends_more i (tree.then_ (tree.mark point) rest) lands n h = found_if (is_named labels i) lands (ends_before_arm labels (i + 1) rest lands) n h (arm_ends_more (i + 1) rest lands n h)

  -- No label names the piece, so that its end counts, and those behind it.
  unnamed_one : (i : ℕ) (x : PieceTree) (rest : PieceTrees) (lands more : List ℕ) (others : PieceTrees) → is_named labels i ≡ false → ends_before_arm labels (i + 1) rest lands ≡ ends_in others more
      → ends_before_arm labels i (tree.then_ x rest) lands ≡ ends_in (tree.then_ x others) more
  unnamed_one i (tree.land call end) rest lands more others u e = unnamed_if (is_named labels i) lands (call.0 ∷ ends_before_arm labels (i + 1) rest lands) u ∙ ap (λ (l : List ℕ). call.0 ∷ l) e
  unnamed_one i (tree.set name value) rest lands more others u e = unnamed_if (is_named labels i) lands (ends_before_arm labels (i + 1) rest lands) u ∙ e
  unnamed_one i (tree.put array subscripts value at) rest lands more others u e = unnamed_if (is_named labels i) lands (ends_before_arm labels (i + 1) rest lands) u ∙ e
  unnamed_one i (tree.fork test first second end) rest lands more others u e = unnamed_if (is_named labels i) lands (ends_before_arm labels (i + 1) rest lands) u ∙ e
  unnamed_one i (tree.repeat_ id post before test body step end) rest lands more others u e = unnamed_if (is_named labels i) lands (ends_before_arm labels (i + 1) rest lands) u ∙ e
  unnamed_one i (tree.pick test names body end) rest lands more others u e = unnamed_if (is_named labels i) lands (ends_before_arm labels (i + 1) rest lands) u ∙ e
  unnamed_one i tree.break_ rest lands more others u e = unnamed_if (is_named labels i) lands (ends_before_arm labels (i + 1) rest lands) u ∙ e
  unnamed_one i tree.next_ rest lands more others u e = unnamed_if (is_named labels i) lands (ends_before_arm labels (i + 1) rest lands) u ∙ e
  unnamed_one i (tree.leave call) rest lands more others u e = unnamed_if (is_named labels i) lands (ends_before_arm labels (i + 1) rest lands) u ∙ e
  unnamed_one i (tree.mark point) rest lands more others u e = unnamed_if (is_named labels i) lands (ends_before_arm labels (i + 1) rest lands) u ∙ e

  unnamed_ends : (i n : ℕ) (xs zs : List PieceTree) (lands : List ℕ) → n ≡ i + length xs → ((j : ℕ) → i ≤ j → j < n → is_named labels j ≡ false)
      → ends_before_arm labels i (piece_row (xs ++ zs)) lands ≡ ends_in (piece_row xs) (ends_before_arm labels n (piece_row zs) lands)
  unnamed_ends i n [] zs lands e quiet = ap (λ j. ends_before_arm labels j (piece_row zs) lands) (let same : i ≡ n = omega (arith, e) in same)
  unnamed_ends i n (x ∷ xs) zs lands e quiet =
      unnamed_one i x (piece_row (xs ++ zs)) lands (ends_before_arm labels n (piece_row zs) lands) (piece_row xs) (quiet i (omega arith) (omega (arith, e)))
      (unnamed_ends (i + 1) n xs zs lands (omega (arith, e)) (λ j le lt. quiet j (omega (arith, le)) lt))

  -- Pieces among which no label names one but the first fit where they fit without labels.
  pub arm_append : (i n : ℕ) (xs zs : List PieceTree) (inside : Inside) → n ≡ i + length xs → ((j : ℕ) → i < j → j < n → is_named labels j ≡ false)
      → PiecesFit (with_ends (ends_before_arm labels n (piece_row zs) inside.lands) inside) (piece_row xs) → ArmPiecesFit labels n inside (piece_row zs) → ArmPiecesFit labels i inside (piece_row (xs ++ zs))
  arm_append i n [] zs inside e quiet h g = subst (λ j. ArmPiecesFit labels j inside (piece_row zs)) (let same : n ≡ i = omega (arith, e) in same) g
  arm_append i n (x ∷ xs) zs inside e quiet h g = (
    subst (λ l. PieceFits (with_ends l inside) x) (sym (unnamed_ends (i + 1) n xs zs inside.lands (omega (arith, e)) (λ j le lt. quiet j (omega (arith, le)) lt))) h.0,
    arm_append (i + 1) n xs zs inside (omega (arith, e)) (λ j le lt. quiet j (omega (arith, le)) lt) h.1 g,
  )
