-- The points of blocks are points of the pieces, each taken once.
use Rattle.std.proofs.Common.{◌≡◌, ◌∙◌, ℕ, ◌+◌, Bool, true, false, refl, sym, ap, subst, append_assoc, append-nil, List, [], ◌∷◌, ◌++◌, Option, Some, None, if◌then◌else◌}
use Rattle.hls_base.specs.declared.point.Point.{Point}
use Rattle.pieces.specs.declared.piece.Label.{Label}
use Rattle.pieces.specs.Trees as tree
use Rattle.pieces.specs.Trees.{PieceTree, PieceTrees}
use Rattle.passes.specs.Lowering.Shapes.{any_continues, first_point, or_at, point_of}
use Rattle.passes.specs.Lowering.{own_step, is_named}
use Rattle.pass_runs.specs.LowerRuns.Holding.{none_hidden}
use Rattle.pass_runs.specs.ConvertRuns.ConvertedTrees.Points as blocks
use Rattle.pass_runs.specs.ConvertRuns.LoweredConversions.PiecePoints.{from_point, step_behind, points_in, points_of, points_before, points_in_arms}
use Rattle.pass_runs.proofs.ConvertRuns.LoweredConversions.Points.{points}
use Rattle.expanded_pieces.specs.ApartPoints.Apart.{IsAway, AreApart}
use Rattle.expanded_pieces.specs.ApartPoints.Points.{all_points, own_points}
use Rattle.expanded_pieces.proofs.ApartPoints.Apart.{Taken, take_none, take_all, take_both, take_right, take_keep}
use Rattle.expanded_pieces.specs.BlockPoints.{SuitingPointsDiffer}
use Rattle.expanded_pieces.proofs.BlockPoints.Parts.{IsMark, IsHeaded, IsMarkIf, PartsBegin, PartBegins, ArmsBegin, begin_suits}

-- the points of a step, which has a block of its own or goes on behind the body
abbrev step_points : Option Point → List Point → List Point
step_points None points = points
step_points (Some point) points = point ∷ points

joined_step : (first : Point) (body step : List Point) (own : Option Point) → (first ∷ (body ++ step_behind own step)) ++ from_point own step ≡ (first ∷ body) ++ step_points own step
joined_step first body step None = append-nil (first ∷ (body ++ step))
joined_step first body step (Some point) = ap (λ l. (first ∷ l) ++ point ∷ step) (append-nil body)

last_point : (all xs : List Point) (end : Point) → Taken all xs → Taken (all ++ end ∷ []) (xs ++ end ∷ [])
last_point all xs end t = take_both all (end ∷ []) xs (end ∷ []) t (take_all (end ∷ []))

-- a mark at which an arm begins
marked_taken : (first : PieceTree) (end : Point) (all before arms : List Point) → IsMark first → Taken all (before ++ arms) → Taken (own_points first ++ all) ((or_at end (point_of first) ∷ (points_of first ++ before)) ++ arms)
marked_taken (tree.mark point) end all before arms m a = take_keep point all (before ++ arms) a
marked_taken (tree.set name value) end all before arms m a = absurd m
marked_taken (tree.put array subscripts value at) end all before arms m a = absurd m
marked_taken (tree.fork test left right end1) end all before arms m a = absurd m
marked_taken (tree.repeat_ id post before1 test body step end1) end all before arms m a = absurd m
marked_taken (tree.pick test labels body end1) end all before arms m a = absurd m
marked_taken tree.break_ end all before arms m a = absurd m
marked_taken tree.next_ end all before arms m a = absurd m
marked_taken (tree.leave call) end all before arms m a = absurd m
marked_taken (tree.land call end1) end all before arms m a = absurd m

-- pieces that begin with a mark have its point before those of their blocks
headed_first : (pieces : PieceTrees) (end : Point) (list : List Point) → IsHeaded pieces → from_point (first_point pieces) list ≡ or_at end (first_point pieces) ∷ list
headed_first tree.no_pieces end list h = absurd h
headed_first (tree.then_ (tree.mark point) rest) end list h = refl
headed_first (tree.then_ (tree.set name value) rest) end list h = absurd h
headed_first (tree.then_ (tree.put array subscripts value at) rest) end list h = absurd h
headed_first (tree.then_ (tree.fork test left right end1) rest) end list h = absurd h
headed_first (tree.then_ (tree.repeat_ id post before test body step end1) rest) end list h = absurd h
headed_first (tree.then_ (tree.pick test labels body end1) rest) end list h = absurd h
headed_first (tree.then_ tree.break_ rest) end list h = absurd h
headed_first (tree.then_ tree.next_ rest) end list h = absurd h
headed_first (tree.then_ (tree.leave call) rest) end list h = absurd h
headed_first (tree.then_ (tree.land call end1) rest) end list h = absurd h

-- a loop from its parts
loop_taken : (before body step : PieceTrees) (end : Point) → IsHeaded before → IsHeaded body → Taken (all_points before) (from_point (first_point before) (points_in before)) → Taken (all_points body) (from_point (first_point body) (points_in body))
    → (own : Option Point) → Taken (all_points step) (step_points own (points_in step))
    → Taken (all_points before ++ (all_points body ++ (all_points step ++ end ∷ [])))
    (((or_at end (first_point before) ∷ points_in before) ++ ((or_at end (first_point body) ∷ (points_in body ++ step_behind own (points_in step))) ++ from_point own (points_in step))) ++ end ∷ [])
loop_taken before body step end h g b m own s =
    let xs = or_at end (first_point before) ∷ points_in before in
    let at = or_at end (first_point body) in
    let ys = at ∷ points_in body in
    let zs = step_points own (points_in step) in
    let tail : List Point = end ∷ [] in
    let first = subst (Taken (all_points before)) (headed_first before end (points_in before) h) b in
    let second = subst (Taken (all_points body)) (headed_first body end (points_in body) g) m in
    let whole = take_both (all_points before) (all_points body ++ (all_points step ++ tail)) xs (ys ++ (zs ++ tail)) first (take_both (all_points body) (all_points step ++ tail) ys (zs ++ tail) second (last_point (all_points step) zs end s)) in
    subst (Taken (all_points before ++ (all_points body ++ (all_points step ++ tail))))
    (sym (ap (λ l. (xs ++ l) ++ tail) (joined_step at (points_in body) (points_in step) own) ∙ append_assoc xs (ys ++ zs) tail ∙ ap (λ l. xs ++ l) (append_assoc ys zs tail))) whole

mutual
  pieces_taken : (pieces : PieceTrees) → PartsBegin pieces → Taken (all_points pieces) (points_in pieces)
  pieces_taken tree.no_pieces h = take_none []
  pieces_taken (tree.then_ first rest) h = take_both (own_points first) (all_points rest) (points_of first) (points_in rest) (piece_taken first h.0) (pieces_taken rest h.1)

  -- with the point that they begin with
  headed_taken : (pieces : PieceTrees) → PartsBegin pieces → Taken (all_points pieces) (from_point (first_point pieces) (points_in pieces))
  headed_taken tree.no_pieces h = take_none []
  headed_taken (tree.then_ (tree.mark point) rest) h = take_keep point (all_points rest) (points_in rest) (pieces_taken rest h.1)
  headed_taken (tree.then_ (tree.set name value) rest) h = take_none (all_points rest)
  headed_taken (tree.then_ (tree.put array subscripts value at) rest) h = take_none (all_points rest)
  headed_taken (tree.then_ (tree.fork test left right end) rest) h = take_none (all_points (tree.then_ (tree.fork test left right end) rest))
  headed_taken (tree.then_ (tree.repeat_ id post before test body step end) rest) h = take_none (all_points (tree.then_ (tree.repeat_ id post before test body step end) rest))
  headed_taken (tree.then_ (tree.pick test labels body end) rest) h = take_none (all_points (tree.then_ (tree.pick test labels body end) rest))
  headed_taken (tree.then_ tree.break_ rest) h = take_none (all_points rest)
  headed_taken (tree.then_ tree.next_ rest) h = take_none (all_points rest)
  headed_taken (tree.then_ (tree.leave call) rest) h = take_none (all_points rest)
  headed_taken (tree.then_ (tree.land call end) rest) h = take_none (end ∷ all_points rest)

  piece_taken : (piece : PieceTree) → PartBegins piece → Taken (own_points piece) (points_of piece)
  piece_taken (tree.fork test left right end) h =
      let xs = from_point (first_point left) (points_in left) in
      let ys = from_point (first_point right) (points_in right) in
      subst (Taken (all_points left ++ (all_points right ++ end ∷ []))) (sym (append_assoc xs ys (end ∷ []))) (take_both (all_points left) (all_points right ++ end ∷ []) xs (ys ++ end ∷ []) (headed_taken left h.0) (last_point (all_points right) ys end (headed_taken right h.1)))
  piece_taken (tree.repeat_ id post before test body step end) h =
      loop_taken before body step end h.0 h.1 (headed_taken before h.2) (headed_taken body h.3) (own_step body (first_point step)) (either (any_continues body) (headed_taken step h.4) (pieces_taken step h.4))
    where
      either : (c : Bool) → Taken (all_points step) (from_point (first_point step) (points_in step)) → Taken (all_points step) (points_in step) → Taken (all_points step) (step_points (if c then first_point step else None) (points_in step))
      either false a b = b
      either true a b = stepped (first_point step) a
        where
          stepped : (o : Option Point) → Taken (all_points step) (from_point o (points_in step)) → Taken (all_points step) (step_points o (points_in step))
          stepped None a1 = b
          stepped (Some point) a1 = a1
  piece_taken (tree.pick test labels body end) h = last_point (all_points body) (points_in_arms labels 0 body end) end (arms_taken labels 0 body end h)
  piece_taken (tree.set name value) h = take_none []
  piece_taken (tree.put array subscripts value at) h = take_none []
  piece_taken tree.break_ h = take_none []
  piece_taken tree.next_ h = take_none []
  piece_taken (tree.leave call) h = take_none []
  piece_taken (tree.land call end) h = take_all (end ∷ [])
  piece_taken (tree.mark point) h = take_none (point ∷ [])

  -- of the arms from this piece on
  arms_taken : (labels : List Label) (i : ℕ) (pieces : PieceTrees) (end : Point) → ArmsBegin labels i pieces → Taken (all_points pieces) (points_in_arms labels i pieces end)
  arms_taken labels i tree.no_pieces end h = take_none []
  arms_taken labels i (tree.then_ first rest) end h =
      either (is_named labels i) h.0 (arm_taken labels (i + 1) rest end h.2) (arms_taken labels (i + 1) rest end h.2)
    where
      either : (b : Bool) → IsMarkIf b first → Taken (all_points rest) (points_before labels (i + 1) rest ++ points_in_arms labels (i + 1) rest end) → Taken (all_points rest) (points_in_arms labels (i + 1) rest end)
          → Taken (own_points first ++ all_points rest) (if b then ((or_at end (point_of first) ∷ (points_of first ++ points_before labels (i + 1) rest)) ++ points_in_arms labels (i + 1) rest end) else points_in_arms labels (i + 1) rest end)
      either true m a b = marked_taken first end (all_points rest) (points_before labels (i + 1) rest) (points_in_arms labels (i + 1) rest end) m a
      either false m a b = take_right (own_points first) (all_points rest) (points_in_arms labels (i + 1) rest end) b

  -- of the arm that goes on here, and of those behind it
  arm_taken : (labels : List Label) (i : ℕ) (pieces : PieceTrees) (end : Point) → ArmsBegin labels i pieces → Taken (all_points pieces) (points_before labels i pieces ++ points_in_arms labels i pieces end)
  arm_taken labels i tree.no_pieces end h = take_none []
  arm_taken labels i (tree.then_ first rest) end h =
      either (is_named labels i) h.0 (piece_taken first h.1) (arm_taken labels (i + 1) rest end h.2)
    where
      either : (b : Bool) → IsMarkIf b first → Taken (own_points first) (points_of first) → Taken (all_points rest) (points_before labels (i + 1) rest ++ points_in_arms labels (i + 1) rest end)
          → Taken (own_points first ++ all_points rest)
          ((if b then [] else (points_of first ++ points_before labels (i + 1) rest)) ++ (if b then ((or_at end (point_of first) ∷ (points_of first ++ points_before labels (i + 1) rest)) ++ points_in_arms labels (i + 1) rest end) else points_in_arms labels (i + 1) rest end))
      either true m t a = marked_taken first end (all_points rest) (points_before labels (i + 1) rest) (points_in_arms labels (i + 1) rest end) m a
      either false m t a =
          subst (Taken (own_points first ++ all_points rest)) (sym (append_assoc (points_of first) (points_before labels (i + 1) rest) (points_in_arms labels (i + 1) rest end)))
          (take_both (own_points first) (all_points rest) (points_of first) (points_before labels (i + 1) rest ++ points_in_arms labels (i + 1) rest end) t a)

same_apart : (ps : List Point) → AreApart ps → blocks.AreApart ps
same_apart [] h = tt
same_apart (p ∷ ps) h = (away p ps h.0, same_apart ps h.1) where
  away : (p : Point) (ps : List Point) → IsAway p ps → blocks.IsAway p ps
  away p [] h = tt
  away p (q ∷ ps) h = (h.0, away p ps h.1)

pub points_differ : SuitingPointsDiffer
points_differ f kept scope pieces point e suits apart =
    let taken = subst (λ o. Taken (all_points pieces) (from_point o (points_in pieces))) e (headed_taken pieces (begin_suits f kept [] none_hidden pieces suits)) in
    subst blocks.AreApart (sym (points scope pieces point)) (same_apart (point ∷ points_in pieces) (taken.apart apart))
