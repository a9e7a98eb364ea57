-- Blocks that may run begin at points that are kept.
use Rattle.std.proofs.Common.{◌≡◌, ◌∙◌, ◌⊎◌, inl, inr, ℕ, ◌+◌, Bool, true, false, ap, List, [], ◌∷◌, ◌++◌, Option, Some, None, if◌then◌else◌}
use Rattle.hls_base.specs.declared.point.Point.{Point}
use Rattle.pieces.specs.declared.piece.Label.{Label}
use Rattle.pieces.specs.Trees as tree
use Rattle.pieces.specs.Trees.{PieceTree, PieceTrees}
use Rattle.c_meaning.specs.PieceRuns.Pieces.{Frame}
use Rattle.passes.specs.Lowering.Shapes.{any_continues, first_point, or_at, point_of}
use Rattle.passes.specs.Lowering.{own_step, is_named}
use Rattle.pass_runs.specs.LowerRuns.LoweredTrees.Fitting.{ends_in, ends_before_arm}
use Rattle.pass_runs.specs.LowerRuns.Suiting.{with_hidden, hidden_behind, ArmBy, StepBy, AloneBy, SidesBy, PieceSuits, BeginSuits, PiecesSuit, ArmsSuit, AreApart}
use Rattle.pass_runs.specs.ConvertRuns.LoweredConversions.PiecePoints.{from_point, step_behind, points_in, points_of, points_before, points_in_arms}
use Rattle.expanded_pieces.proofs.ApartPoints.Apart.{IsIn, in_either}

module _ (f : Frame) (kept : Point → Bool) where
  abbrev pub AllKept : List Point → Type 0
  AllKept ps = (q : Point) → IsIn q ps → kept q ≡ true

  none_kept : AllKept []
  none_kept q i = absurd i

  one_kept : (p : Point) → kept p ≡ true → AllKept (p ∷ [])
  one_kept p k q (inl e) = ap kept e ∙ k
  one_kept p k q (inr i) = absurd i

  both_kept : (ps qs : List Point) → AllKept ps → AllKept qs → AllKept (ps ++ qs)
  both_kept ps qs h g q i = by (in_either q ps qs i) where
    by : IsIn q ps ⊎ IsIn q qs → kept q ≡ true
    by (inl j) = h q j
    by (inr j) = g q j

  first_kept : (p : Point) (ps : List Point) → kept p ≡ true → AllKept ps → AllKept (p ∷ ps)
  first_kept p ps k h = both_kept (p ∷ []) ps (one_kept p k) h

  -- ---- branches, steps and arms

  abbrev Headed : PieceTrees → Type 0
  Headed pieces = (lands : List ℕ) (hidden : ℕ → Bool) → BeginSuits f kept lands hidden pieces → AllKept (from_point (first_point pieces) (points_in pieces))

  alone_kept : (ps : List Point) (lands : List ℕ) (hidden : ℕ → Bool) (own other : PieceTrees) → ((l : List ℕ) (h : ℕ → Bool) → BeginSuits f kept l h own → AllKept ps) → AloneBy f lands hidden (λ l h. BeginSuits f kept l h own) own other → AllKept ps
  alone_kept ps lands hidden own tree.no_pieces g h = g lands hidden h
  alone_kept ps lands hidden own (tree.then_ (tree.set name (tree.number word k)) tree.no_pieces) g h = g [] (with_hidden hidden name.0) h.2
  alone_kept ps lands hidden own other g h = absurd h

  sides_kept : (lands : List ℕ) (hidden : ℕ → Bool) (left right : PieceTrees) (p q : Option Point) → ((l : List ℕ) (h : ℕ → Bool) → BeginSuits f kept l h left → AllKept (from_point p (points_in left)))
      → ((l : List ℕ) (h : ℕ → Bool) → BeginSuits f kept l h right → AllKept (from_point q (points_in right)))
      → SidesBy p q (BeginSuits f kept lands hidden left) (BeginSuits f kept lands hidden right) (AloneBy f lands hidden (λ l h. BeginSuits f kept l h left) left right) (AloneBy f lands hidden (λ l h. BeginSuits f kept l h right) right left)
      → AllKept (from_point p (points_in left)) × AllKept (from_point q (points_in right))
  sides_kept lands hidden left right (Some p) (Some q) g k h = (g lands hidden h.0, k lands hidden h.1)
  sides_kept lands hidden left right (Some p) None g k h = (alone_kept (p ∷ points_in left) lands hidden left right g h, none_kept)
  sides_kept lands hidden left right None (Some q) g k h = (none_kept, alone_kept (q ∷ points_in right) lands hidden right left k h)
  sides_kept lands hidden left right None None g k h = absurd h

  step_kept : (lands : List ℕ) (hidden : ℕ → Bool) (continues : Bool) (step : PieceTrees) → Headed step → ((l : List ℕ) (h : ℕ → Bool) → BeginSuits f kept l h step → AllKept (points_in step)) → (PiecesSuit f kept lands hidden hidden step → AllKept (points_in step))
      → StepBy continues step (BeginSuits f kept lands hidden step) (PiecesSuit f kept lands hidden hidden step × AreApart lands step) → AllKept (points_in step) × AllKept (from_point (if continues then first_point step else None) (points_in step))
  step_kept lands hidden true tree.no_pieces g h k s = (none_kept, none_kept)
  step_kept lands hidden true (tree.then_ first rest) g h k s = (h lands hidden s, g lands hidden s)
  step_kept lands hidden false step g h k s = (k s.0, none_kept)

  behind_kept : (o : Option Point) (ps : List Point) → AllKept ps → AllKept (step_behind o ps)
  behind_kept None ps h = h
  behind_kept (Some p) ps h = none_kept

  -- points of the piece, in an arm or before it
  abbrev ArmKept : PieceTree → List Point → List Point → Point → Bool → Type 0
  ArmKept piece before arms end c = AllKept (if c then [] else (points_of piece ++ before)) × AllKept (if c then ((or_at end (point_of piece) ∷ (points_of piece ++ before)) ++ arms) else arms)

  arm_kept : (piece : PieceTree) (before arms : List Point) (end : Point) (suits : Type 0) → (suits → AllKept (points_of piece)) → AllKept before → AllKept arms → (c : Bool) → ArmBy kept c piece suits → ArmKept piece before arms end c
  arm_kept piece before arms end suits g b a false h = (both_kept (points_of piece) before (g h) b, a)
  arm_kept (tree.mark point) before arms end suits g b a true h = (none_kept, both_kept (point ∷ before) arms (first_kept point before h b) a)
  arm_kept (tree.set name value) before arms end suits g b a true h = absurd h
  arm_kept (tree.put array subscripts value at) before arms end suits g b a true h = absurd h
  arm_kept (tree.fork test left right end1) before arms end suits g b a true h = absurd h
  arm_kept (tree.repeat_ id post before1 test body step end1) before arms end suits g b a true h = absurd h
  arm_kept (tree.pick test labels body end1) before arms end suits g b a true h = absurd h
  arm_kept tree.break_ before arms end suits g b a true h = absurd h
  arm_kept tree.next_ before arms end suits g b a true h = absurd h
  arm_kept (tree.leave call) before arms end suits g b a true h = absurd h
  arm_kept (tree.land call end1) before arms end suits g b a true h = absurd h

  -- ---- pieces

  mutual
    pub headed_kept : (pieces : PieceTrees) → Headed pieces
    headed_kept tree.no_pieces lands hidden h = absurd h
    headed_kept (tree.then_ (tree.mark point) rest) lands hidden h = first_kept point (points_in rest) h.0 (pieces_kept rest lands hidden hidden h.1)
    headed_kept other lands hidden h = absurd h

    -- the first one, and those behind it
    begun_kept : (pieces : PieceTrees) (end : Point) (lands : List ℕ) (hidden : ℕ → Bool) → BeginSuits f kept lands hidden pieces → AllKept (or_at end (first_point pieces) ∷ points_in pieces)
    begun_kept tree.no_pieces end lands hidden h = absurd h
    begun_kept (tree.then_ (tree.mark point) rest) end lands hidden h = first_kept point (points_in rest) h.0 (pieces_kept rest lands hidden hidden h.1)
    begun_kept other end lands hidden h = absurd h

    pieces_kept : (pieces : PieceTrees) (lands : List ℕ) (outside hidden : ℕ → Bool) → PiecesSuit f kept lands outside hidden pieces → AllKept (points_in pieces)
    pieces_kept tree.no_pieces lands outside hidden h = none_kept
    pieces_kept (tree.then_ first rest) lands outside hidden h = both_kept (points_of first) (points_in rest) (piece_kept first (ends_in rest lands) hidden h.0) (pieces_kept rest lands outside (hidden_behind outside hidden first) h.1)

    piece_kept : (piece : PieceTree) (lands : List ℕ) (hidden : ℕ → Bool) → PieceSuits f kept lands hidden piece → AllKept (points_of piece)
    piece_kept (tree.fork test left right end) lands hidden h =
        let xs = from_point (first_point left) (points_in left) in
        let ys = from_point (first_point right) (points_in right) in
        let sides = sides_kept lands hidden left right (first_point left) (first_point right) (headed_kept left) (headed_kept right) h.2 in
        both_kept (xs ++ ys) (end ∷ []) (both_kept xs ys sides.0 sides.1) (one_kept end h.1)
    piece_kept (tree.repeat_ id post before test body step end) lands hidden h =
        let own = own_step body (first_point step) in
        let first = or_at end (first_point before) ∷ points_in before in
        let at = or_at end (first_point body) in
        let behind = step_behind own (points_in step) in
        let last = from_point own (points_in step) in
        let steps = step_kept lands hidden (any_continues body) step (headed_kept step) (λ l g s q i. begun_kept step end l g s q (inr i)) (pieces_kept step lands hidden hidden) h.4 in
        both_kept (first ++ ((at ∷ (points_in body ++ behind)) ++ last)) (end ∷ [])
        (both_kept first ((at ∷ (points_in body ++ behind)) ++ last) (begun_kept before end [] hidden h.2)
        (both_kept (at ∷ (points_in body ++ behind)) last (both_kept (at ∷ points_in body) behind (begun_kept body end lands hidden h.3) (behind_kept own (points_in step) steps.0)) steps.1)) (one_kept end h.1)
    piece_kept (tree.pick test labels body end) lands hidden h = both_kept (points_in_arms labels 0 body end) (end ∷ []) (arms_kept body end labels 0 lands hidden h.3).1 (one_kept end h.1)
    piece_kept (tree.land call end) lands hidden h = one_kept end h
    piece_kept (tree.mark point) lands hidden h = none_kept
    piece_kept (tree.set name value) lands hidden h = none_kept
    piece_kept (tree.put array subscripts value at) lands hidden h = none_kept
    piece_kept tree.break_ lands hidden h = none_kept
    piece_kept tree.next_ lands hidden h = none_kept
    piece_kept (tree.leave call) lands hidden h = none_kept

    arms_kept : (pieces : PieceTrees) (end : Point) (labels : List Label) (i : ℕ) (lands : List ℕ) (hidden : ℕ → Bool) → ArmsSuit f kept labels i lands hidden pieces → AllKept (points_before labels i pieces) × AllKept (points_in_arms labels i pieces end)
    arms_kept tree.no_pieces end labels i lands hidden h = (none_kept, none_kept)
    arms_kept (tree.then_ first rest) end labels i lands hidden h =
        let later = arms_kept rest end labels (i + 1) lands hidden h.2 in
        arm_kept first (points_before labels (i + 1) rest) (points_in_arms labels (i + 1) rest end) end (PieceSuits f kept (ends_before_arm labels (i + 1) rest lands) hidden first) (piece_kept first (ends_before_arm labels (i + 1) rest lands) hidden) later.0 later.1 (is_named labels i) h.0
