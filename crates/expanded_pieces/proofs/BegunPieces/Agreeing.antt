-- Where the points at which blocks begin are kept, and those of other marks are not.
use Rattle.std.proofs.Common.{◌≡◌, ℕ, ◌+◌, Bool, true, false, List, [], ◌∷◌, ◌++◌, if◌then◌else◌}
use Rattle.hls_base.specs.declared.point.Point.{Point}
use Rattle.pieces.specs.declared.piece.Label.{Label}
use Rattle.pieces.specs.Trees as tree
use Rattle.pieces.specs.Trees.{PieceTree, PieceTrees}
use Rattle.passes.specs.Lowering.Shapes.{any_continues}
use Rattle.passes.specs.Lowering.{is_named}
use Rattle.expanded_pieces.specs.BegunPieces.Points.{listed_if, arm_by, points_in, points_of, first_points, arm_points, EachPoint, KeepsBegun}

abbrev pub by : Bool → Type 0 → Type 0 → Type 0
by true A B = A
by false A B = B

module _ (kept : Point → Bool) where
  abbrev pub ArmAgrees : Bool → PieceTree → Type 0 → Type 0
  ArmAgrees true (tree.mark point) others = kept point ≡ true
  ArmAgrees named piece others = others

  -- the points of a piece at which blocks begin are kept, and other marks are not
  abbrev mutual
    pub Agrees : PieceTree → Type 0
    Agrees (tree.fork test first second end) = FirstAgree first × FirstAgree second × (kept end ≡ true)
    Agrees (tree.repeat_ id post before test body step end) = FirstAgree before × FirstAgree body × by (any_continues body) (FirstAgree step) (AllAgree step) × (kept end ≡ true)
    Agrees (tree.pick test labels body end) = ArmsAgree labels 0 body × (kept end ≡ true)
    Agrees (tree.land call end) = kept end ≡ true
    Agrees (tree.mark point) = kept point ≡ false
    Agrees piece = Unit {0}

    pub AllAgree : PieceTrees → Type 0
    AllAgree tree.no_pieces = Unit {0}
    AllAgree (tree.then_ piece rest) = Agrees piece × AllAgree rest

    pub FirstAgree : PieceTrees → Type 0
    FirstAgree tree.no_pieces = Unit {0}
    FirstAgree (tree.then_ (tree.mark point) rest) = (kept point ≡ true) × AllAgree rest
    FirstAgree (tree.then_ piece rest) = Agrees piece × AllAgree rest

    pub ArmsAgree : List Label → ℕ → PieceTrees → Type 0
    ArmsAgree labels i tree.no_pieces = Unit {0}
    ArmsAgree labels i (tree.then_ piece rest) = ArmAgrees (is_named labels i) piece (Agrees piece) × ArmsAgree labels (i + 1) rest

  -- ---- from lists of points

  abbrev Listed : (Bool → List Point) → Type 0
  Listed points = (b : Bool) → EachPoint (λ point. kept point ≡ b) (points b)

  each_first : (b : Bool) (xs ys : List Point) → EachPoint (λ point. kept point ≡ b) (xs ++ ys) → EachPoint (λ point. kept point ≡ b) xs
  each_first b [] ys h = tt
  each_first b (x ∷ xs) ys h = (h.0, each_first b xs ys h.1)

  each_second : (b : Bool) (xs ys : List Point) → EachPoint (λ point. kept point ≡ b) (xs ++ ys) → EachPoint (λ point. kept point ≡ b) ys
  each_second b [] ys h = h
  each_second b (x ∷ xs) ys h = each_second b xs ys h.1

  first_of : (xs ys : Bool → List Point) → Listed (λ b. xs b ++ ys b) → Listed xs
  first_of xs ys h b = each_first b (xs b) (ys b) (h b)

  second_of : (xs ys : Bool → List Point) → Listed (λ b. xs b ++ ys b) → Listed ys
  second_of xs ys h b = each_second b (xs b) (ys b) (h b)

  by_cases : (c : Bool) (xs ys : Bool → List Point) (A B : Type 0) → (Listed xs → A) → (Listed ys → B) → Listed (λ b. if c then xs b else ys b) → by c A B
  by_cases true xs ys A B f g h = f h
  by_cases false xs ys A B f g h = g h

  arm_agrees : (named : Bool) (piece : PieceTree) (others : Bool → List Point) (A : Type 0) → (Listed others → A) → Listed (λ b. arm_by b named piece (others b)) → ArmAgrees named piece A
  arm_agrees true (tree.mark point) others A f h = (h true).0
  arm_agrees true piece others A f h = f h
  arm_agrees false piece others A f h = f h

  mutual
    agrees : (piece : PieceTree) → Listed (λ b. points_in b piece) → Agrees piece
    agrees (tree.fork test first second end) h =
        let later = second_of (λ b. first_points b first) (λ b. first_points b second ++ listed_if b end) h in (
          first_agree first (first_of (λ b. first_points b first) (λ b. first_points b second ++ listed_if b end) h),
          first_agree second (first_of (λ b. first_points b second) (λ b. listed_if b end) later),
          (second_of (λ b. first_points b second) (λ b. listed_if b end) later true).0,
        )
    agrees (tree.repeat_ id post before test body step end) h =
        let steps : Bool → List Point = λ b. if any_continues body then first_points b step else points_of b step in
        let later = second_of (λ b. first_points b before) (λ b. first_points b body ++ (steps b ++ listed_if b end)) h in
        let last = second_of (λ b. first_points b body) (λ b. steps b ++ listed_if b end) later in (
          first_agree before (first_of (λ b. first_points b before) (λ b. first_points b body ++ (steps b ++ listed_if b end)) h),
          first_agree body (first_of (λ b. first_points b body) (λ b. steps b ++ listed_if b end) later),
          by_cases (any_continues body) (λ b. first_points b step) (λ b. points_of b step) (FirstAgree step) (AllAgree step) (λ q. first_agree step q) (λ q. all_agree step q) (first_of steps (λ b. listed_if b end) last),
          (second_of steps (λ b. listed_if b end) last true).0,
        )
    agrees (tree.pick test labels body end) h = (
      arms_agree labels 0 body (first_of (λ b. arm_points b labels 0 body) (λ b. listed_if b end) h),
      (second_of (λ b. arm_points b labels 0 body) (λ b. listed_if b end) h true).0,
    )
    agrees (tree.land call end) h = (h true).0
    agrees (tree.mark point) h = (h false).0
    agrees piece h = tt

    all_agree : (pieces : PieceTrees) → Listed (λ b. points_of b pieces) → AllAgree pieces
    all_agree tree.no_pieces h = tt
    all_agree (tree.then_ piece rest) h = (
      agrees piece (first_of (λ b. points_in b piece) (λ b. points_of b rest) h),
      all_agree rest (second_of (λ b. points_in b piece) (λ b. points_of b rest) h),
    )

    first_agree : (pieces : PieceTrees) → Listed (λ b. first_points b pieces) → FirstAgree pieces
    first_agree tree.no_pieces h = tt
    first_agree (tree.then_ (tree.mark point) rest) h = ((h true).0, all_agree rest (second_of (λ b. listed_if b point) (λ b. points_of b rest) h))
    first_agree (tree.then_ piece rest) h = (
      agrees piece (first_of (λ b. points_in b piece) (λ b. points_of b rest) h),
      all_agree rest (second_of (λ b. points_in b piece) (λ b. points_of b rest) h),
    )

    arms_agree : (labels : List Label) (i : ℕ) (pieces : PieceTrees) → Listed (λ b. arm_points b labels i pieces) → ArmsAgree labels i pieces
    arms_agree labels i tree.no_pieces h = tt
    arms_agree labels i (tree.then_ piece rest) h =
        let named = is_named labels i in
        let here : Bool → List Point = λ b. arm_by b named piece (points_in b piece) in (
          arm_agrees named piece (λ b. points_in b piece) (Agrees piece) (λ q. agrees piece q) (first_of here (λ b. arm_points b labels (i + 1) rest) h),
          arms_agree labels (i + 1) rest (second_of here (λ b. arm_points b labels (i + 1) rest) h),
        )

  pub kept_agree : (pieces : PieceTrees) → KeepsBegun kept pieces → FirstAgree pieces
  kept_agree pieces k = first_agree pieces both where
    both : Listed (λ b. first_points b pieces)
    both true = k.begun
    both false = k.dropped
