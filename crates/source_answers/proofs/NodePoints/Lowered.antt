-- The points of the blocks that pieces are lowered to are points of the pieces, each taken once, also where they are never reached.
use Rattle.std.proofs.Common.{◌≡◌, ◌∙◌, ℕ, ◌+◌, Bool, true, false, refl, sym, ap, subst, append_assoc, append-nil, List, [], ◌++◌, Option, Some, None, if◌then◌else◌}
use Rattle.hls_base.specs.declared.point.Point.{Point}
use Rattle.hls_base.specs.declared.number.VarId.{VarId}
use Rattle.pieces.specs.declared.piece.Label.{Label}
use Rattle.pieces.specs.Trees as tree
use Rattle.pieces.specs.Trees.{PieceTree, PieceTrees}
use Rattle.pieces.specs.Weight.{weight}
use Rattle.ir_core.specs.Bodies.{Shapes}
use Rattle.ir_core.specs.Trees.{break_, continue_, leave, BlockTree, SequenceTree, sequence, PartTrees, no_part, more_parts, ShapeTree, fork, loop, switch, land, more_arms}
use Rattle.passes.specs.Lowering.Shapes.{is_eligible, any_continues, first_point, point_of, or_at}
use Rattle.passes.specs.Lowering.Blocks.{Scope, begun, with_exit, ends_by_test, ends_by_fork, ends_by_cases}
use Rattle.passes.specs.Lowering.Copies.{fixed_behind, fixed_behind_shape, copied_parts}
use Rattle.passes.specs.Lowering.{Rest, last, followed, parts_of, land_of, side_from, with_copies, own_step, stepped, is_named, piece_count, targets, other, lowered, lowered_piece, before_arm, arms}
use Rattle.passes.specs.Conversion.Merging.{first_of}
use Rattle.pass_runs.proofs.LowerRuns.LowerControl.Rests.{set_step, put_step, exit_step, test_step, fork_step, cases_step}
use Rattle.expanded_pieces.proofs.ApartPoints.Apart.{Taken, take_none, take_all, take_both, take_right}
use Rattle.expanded_pieces.specs.BegunPieces.Points.{listed_if}
use Rattle.expanded_pieces.proofs.BlockPoints.Parts.{IsHeaded, IsMarkIf, PartsBegin, PartBegins, ArmsBegin}
use Rattle.source_answers.proofs.NodePoints.Trees.{tree_points, parts_points, shape_points, side_points, arm_points}
use Rattle.source_answers.proofs.NodePoints.Listed.{pieces_points, piece_points, points_until, points_from, parted}

abbrev none_shaped : Shapes
none_shaped = record { widths = []; dims = [] }

-- what follows a block begins with it, and the points behind are taken from these
record Behind (live dead : Bool) (tail : List Point) (rest : Rest) : Type 0 where
  first : (b : BlockTree) → (first_of (rest b)).point ≡ b.point
  taken : (b : BlockTree) → Taken tail (parts_points live dead (parts_of (rest b)))

followed_first : (b : BlockTree) (shape : ShapeTree) (s : SequenceTree) → first_of (followed b shape s) ≡ b
followed_first b shape (sequence first rest) = refl

-- ---- copies

copied_points : (live dead : Bool) (scope : Scope) (variables : VarId → Bool) (parts : PartTrees) → parts_points live dead (copied_parts scope variables parts) ≡ parts_points live dead parts
copied_points live dead scope variables no_part = refl
copied_points live dead scope variables (more_parts shape after rest) =
    ap (λ l. shape_points live dead shape ++ (listed_if live after.point ++ l)) (copied_points live dead scope (fixed_behind rest (fixed_behind_shape shape variables) after) rest)

copies_points : (live dead : Bool) (scope : Scope) (c : Bool) (s : SequenceTree) → tree_points live dead (with_copies c scope s) ≡ tree_points live dead s
copies_points live dead scope false s = refl
copies_points live dead scope true (sequence first rest) = ap (λ l. listed_if live first.point ++ l) (copied_points live dead scope (fixed_behind rest (λ variable. false) first) rest)

module _ (live dead : Bool) where
  followed_parts : (b : BlockTree) (shape : ShapeTree) (s : SequenceTree) → parts_points live dead (parts_of (followed b shape s)) ≡ shape_points live dead shape ++ tree_points live dead s
  followed_parts b shape (sequence first rest) = refl

  with_first : (s : SequenceTree) (p : Point) (tail : List Point) → (first_of s).point ≡ p → Taken tail (parts_points live dead (parts_of s)) → Taken (listed_if live p ++ tail) (tree_points live dead s)
  with_first (sequence first rest) p tail e h =
      subst (λ x. Taken (listed_if live x ++ tail) (listed_if live first.point ++ parts_points live dead rest)) e
      (take_both (listed_if live first.point) tail (listed_if live first.point) (parts_points live dead rest) (take_all (listed_if live first.point)) h)

  whole : (tail : List Point) (rest : Rest) → Behind live dead tail rest → (b : BlockTree) → Taken (listed_if live b.point ++ tail) (tree_points live dead (rest b))
  whole tail rest h b = with_first (rest b) b.point tail (h.first b) (h.taken b)

  last_behind : Behind live dead [] last
  last_behind = record { first = λ b. refl; taken = λ b. take_none [] }

  closed : (points : List Point) (rest : Rest) → Behind live dead (points ++ []) rest → Behind live dead points rest
  closed points rest h = subst (λ l. Behind live dead l rest) (append-nil points) h

  step_behind : (step : BlockTree → BlockTree) (tail : List Point) (rest : Rest) → ((b : BlockTree) → (step b).point ≡ b.point) → Behind live dead tail rest → Behind live dead tail (λ b. rest (step b))
  step_behind step tail rest e h = record { first = λ b. (h.first (step b) ∙ e b); taken = λ b. h.taken (step b) }

  -- a shape, and what goes on behind it at this point
  shape_behind : (step : BlockTree → BlockTree) (shape : BlockTree → ShapeTree) (points : List Point) (end : Point) (tail : List Point) (rest : Rest) → ((b : BlockTree) → (step b).point ≡ b.point)
      → ((b : BlockTree) → Taken points (shape_points live dead (shape b))) → Behind live dead tail rest → Behind live dead ((points ++ listed_if live end) ++ tail) (λ b. followed (step b) (shape b) (rest (begun end)))
  shape_behind step shape points end tail rest e h r =
      let own = listed_if live end in
      let s = rest (begun end) in
      record {
        first = λ b. (ap (λ (x : BlockTree). x.point) (followed_first (step b) (shape b) s) ∙ e b);
        taken = λ b.
            subst (λ l. Taken ((points ++ own) ++ tail) l) (sym (followed_parts (step b) (shape b) s))
            (subst (λ l. Taken l (shape_points live dead (shape b) ++ tree_points live dead s)) (sym (append_assoc points own tail)) (take_both points (own ++ tail) (shape_points live dead (shape b)) (tree_points live dead s) (h b) (whole tail rest r (begun end))));
      }

  last_if : (c : Bool) (points : List Point) (rest : Rest) → Behind live dead points rest → Behind live dead (if c then [] else points) (λ b. if c then last b else rest b)
  last_if true points rest h = record { first = λ b. refl; taken = λ b. take_none [] }
  last_if false points rest h = record { first = λ b. h.first b; taken = λ b. h.taken b }

  side_if : (c : Bool) (o : Option Point) (steps : List Point) (stepping : Rest) → Taken steps (side_points live dead (side_from stepping o)) → Taken steps (side_points live dead (side_from stepping (if c then o else None)))
  side_if true o steps stepping h = h
  side_if false o steps stepping h = take_none steps

  -- a body, and a step that has a block of its own or goes on behind the body
  stepped_taken : (scope : Scope) (body : PieceTrees) (at : Point) (e : Bool) (steps : List Point) (stepping : Rest)
      → ((rest : Rest) (tail : List Point) → Behind live dead tail rest → Taken (pieces_points live dead body ++ tail) (tree_points live dead (lowered scope body rest (begun at)))) → Behind live dead steps stepping
      → (o : Option Point) → Taken steps (side_points live dead (side_from stepping o))
      → Taken (pieces_points live dead body ++ steps) (tree_points live dead (with_copies e scope (lowered scope body (λ b1. stepped stepping o b1) (begun at))) ++ side_points live dead (side_from stepping o))
  stepped_taken scope body at e steps stepping heads h None own =
      let all = pieces_points live dead body ++ steps in
      let blocks = lowered scope body (λ b1. stepped stepping None b1) (begun at) in
      subst (Taken all) (sym (append-nil (tree_points live dead (with_copies e scope blocks)) ∙ copies_points live dead scope e blocks))
      (heads (λ b1. stepped stepping None b1) steps (record { first = λ b. h.first b; taken = λ b. h.taken b }))
  stepped_taken scope body at e steps stepping heads h (Some point) own =
      let inner = pieces_points live dead body in
      let blocks = lowered scope body (λ b1. stepped stepping (Some point) b1) (begun at) in
      take_both inner steps (tree_points live dead (with_copies e scope blocks)) (side_points live dead (side_from stepping (Some point)))
      (subst (Taken inner) (sym (copies_points live dead scope e blocks))
      (subst (λ l. Taken l (tree_points live dead blocks)) (append-nil inner) (heads (λ b1. stepped stepping (Some point) b1) [] (record { first = λ b. refl; taken = λ b. take_none [] })))) own

  -- an arm of its own from a piece that a label names
  arm_by : (scope : Scope) (labels : List Label) (i : ℕ) (piece : PieceTree) (rest : PieceTrees) (end : Point) (c : Bool) → IsMarkIf c piece → Behind live dead (points_until live dead labels i rest) (λ b. before_arm scope labels i rest b)
      → Taken (points_from live dead labels i rest) (arm_points live dead (arms scope labels i rest end))
      → Taken (if c then (piece_points live dead piece ++ pieces_points live dead rest) else points_from live dead labels i rest)
      (arm_points live dead (if c then more_arms (lowered_piece scope piece (λ b1. before_arm scope labels i rest b1) (begun (or_at end (point_of piece)))) (arms scope labels i rest end) else arms scope labels i rest end))
  arm_by scope labels i piece rest end false m h a = a
  arm_by scope labels i (tree.mark point) rest end true m h a =
      let own = listed_if live point in
      let before = points_until live dead labels i rest in
      let later = points_from live dead labels i rest in
      let blocks = before_arm scope labels i rest (begun point) in
      let others = arm_points live dead (arms scope labels i rest end) in
      subst (λ l. Taken l (tree_points live dead blocks ++ others)) (append_assoc own before later ∙ ap (λ l. own ++ l) (sym (parted live dead labels i rest)))
      (take_both (own ++ before) later (tree_points live dead blocks) others (whole before (λ b. before_arm scope labels i rest b) h (begun point)) a)
  arm_by scope labels i (tree.set name value) rest end true m h a = absurd m
  arm_by scope labels i (tree.put array subscripts value at) rest end true m h a = absurd m
  arm_by scope labels i (tree.fork test left right end1) rest end true m h a = absurd m
  arm_by scope labels i (tree.repeat_ id post before test body step end1) rest end true m h a = absurd m
  arm_by scope labels i (tree.pick test labels1 body end1) rest end true m h a = absurd m
  arm_by scope labels i tree.break_ rest end true m h a = absurd m
  arm_by scope labels i tree.next_ rest end true m h a = absurd m
  arm_by scope labels i (tree.leave call) rest end true m h a = absurd m
  arm_by scope labels i (tree.land call end1) rest end true m h a = absurd m

-- ---- pieces

module _ (scope : Scope) where
  mutual
    pieces_behind : (live dead : Bool) (pieces : PieceTrees) → PartsBegin pieces → (tail : List Point) (rest : Rest) → Behind live dead tail rest → Behind live dead (pieces_points live dead pieces ++ tail) (λ b. lowered scope pieces rest b)
    pieces_behind live dead tree.no_pieces h tail rest r = record { first = λ b. r.first b; taken = λ b. r.taken b }
    pieces_behind live dead (tree.then_ piece pieces) h tail rest r =
        subst (λ l. Behind live dead l (λ b. lowered_piece scope piece (λ b1. lowered scope pieces rest b1) b)) (sym (append_assoc (piece_points live dead piece) (pieces_points live dead pieces) tail))
        (piece_behind live dead piece h.0 (pieces_points live dead pieces ++ tail) (λ b1. lowered scope pieces rest b1) (pieces_behind live dead pieces h.1 tail rest r))

    -- with the point that they begin with
    headed_taken : (live dead : Bool) (pieces : PieceTrees) → IsHeaded pieces → PartsBegin pieces → (end : Point) (rest : Rest) (tail : List Point) → Behind live dead tail rest
        → Taken (pieces_points live dead pieces ++ tail) (tree_points live dead (lowered scope pieces rest (begun (or_at end (first_point pieces)))))
    headed_taken live dead tree.no_pieces m h end rest tail r = absurd m
    headed_taken live dead (tree.then_ (tree.mark point) others) m h end rest tail r =
        subst (λ l. Taken l (tree_points live dead (lowered scope others rest (begun point)))) (sym (append_assoc (listed_if live point) (pieces_points live dead others) tail))
        (whole live dead (pieces_points live dead others ++ tail) (λ b. lowered scope others rest b) (pieces_behind live dead others h.1 tail rest r) (begun point))
    headed_taken live dead (tree.then_ (tree.set name value) others) m h end rest tail r = absurd m
    headed_taken live dead (tree.then_ (tree.put array subscripts value at) others) m h end rest tail r = absurd m
    headed_taken live dead (tree.then_ (tree.fork test left right end1) others) m h end rest tail r = absurd m
    headed_taken live dead (tree.then_ (tree.repeat_ id post before test body step end1) others) m h end rest tail r = absurd m
    headed_taken live dead (tree.then_ (tree.pick test labels body end1) others) m h end rest tail r = absurd m
    headed_taken live dead (tree.then_ tree.break_ others) m h end rest tail r = absurd m
    headed_taken live dead (tree.then_ tree.next_ others) m h end rest tail r = absurd m
    headed_taken live dead (tree.then_ (tree.leave call) others) m h end rest tail r = absurd m
    headed_taken live dead (tree.then_ (tree.land call end1) others) m h end rest tail r = absurd m

    -- pieces that have blocks where they begin with a mark
    pub side_taken : (live dead : Bool) (pieces : PieceTrees) → PartsBegin pieces → Taken (pieces_points live dead pieces) (side_points live dead (side_from (λ b. lowered scope pieces last b) (first_point pieces)))
    side_taken live dead tree.no_pieces h = take_none []
    side_taken live dead (tree.then_ (tree.mark point) others) h =
        whole live dead (pieces_points live dead others) (λ b. lowered scope others last b) (closed live dead (pieces_points live dead others) (λ b. lowered scope others last b) (pieces_behind live dead others h.1 [] last (last_behind live dead))) (begun point)
    side_taken live dead (tree.then_ (tree.set name value) others) h = take_none (pieces_points live dead (tree.then_ (tree.set name value) others))
    side_taken live dead (tree.then_ (tree.put array subscripts value at) others) h = take_none (pieces_points live dead (tree.then_ (tree.put array subscripts value at) others))
    side_taken live dead (tree.then_ (tree.fork test left right end) others) h = take_none (pieces_points live dead (tree.then_ (tree.fork test left right end) others))
    side_taken live dead (tree.then_ (tree.repeat_ id post before test body step end) others) h = take_none (pieces_points live dead (tree.then_ (tree.repeat_ id post before test body step end) others))
    side_taken live dead (tree.then_ (tree.pick test labels body end) others) h = take_none (pieces_points live dead (tree.then_ (tree.pick test labels body end) others))
    side_taken live dead (tree.then_ tree.break_ others) h = take_none (pieces_points live dead (tree.then_ tree.break_ others))
    side_taken live dead (tree.then_ tree.next_ others) h = take_none (pieces_points live dead (tree.then_ tree.next_ others))
    side_taken live dead (tree.then_ (tree.leave call) others) h = take_none (pieces_points live dead (tree.then_ (tree.leave call) others))
    side_taken live dead (tree.then_ (tree.land call end) others) h = take_none (pieces_points live dead (tree.then_ (tree.land call end) others))

    piece_behind : (live dead : Bool) (piece : PieceTree) → PartBegins piece → (tail : List Point) (rest : Rest) → Behind live dead tail rest → Behind live dead (piece_points live dead piece ++ tail) (λ b. lowered_piece scope piece rest b)
    piece_behind live dead (tree.set variable value) h tail rest r = step_behind live dead _ tail rest (λ b. (set_step none_shaped scope variable value).point b) r
    piece_behind live dead (tree.put array subscripts value at) h tail rest r = step_behind live dead _ tail rest (put_step none_shaped scope array subscripts value at).point r
    piece_behind live dead (tree.fork test yes_ no_ end) h tail rest r =
        let first = side_from (λ b1. lowered scope yes_ last b1) (first_point yes_) in
        let second = side_from (λ b1. lowered scope no_ last b1) (first_point no_) in
        shape_behind live dead (λ b. ends_by_fork scope test yes_ no_ b) (λ b. fork first second _) (pieces_points live dead yes_ ++ pieces_points live dead no_) end tail rest (fork_step none_shaped scope test yes_ no_).point
        (λ b. take_both (pieces_points live dead yes_) (pieces_points live dead no_) (side_points live dead first) (side_points live dead second) (side_taken live dead yes_ h.0) (side_taken live dead no_ h.1)) r
    piece_behind live dead (tree.repeat_ id post before test body step end) h tail rest r =
        let own = own_step body (first_point step) in
        let eligible = is_eligible post before (weight test) body step in
        let stepping : Rest = λ b2. lowered scope step last b2 in
        let at = or_at end (first_point body) in
        let tests = pieces_points live dead before in
        let inner = pieces_points live dead body in
        let steps = pieces_points live dead step in
        let first = lowered scope before (λ b1. last (ends_by_test test b1)) (begun (or_at end (first_point before))) in
        let second = with_copies eligible scope (lowered scope body (λ b1. stepped stepping own b1) (begun at)) in
        let tested : Taken tests (tree_points live dead first) =
        subst (λ l. Taken l (tree_points live dead first)) (append-nil tests)
        (headed_taken live dead before h.0 h.2 end (λ b1. last (ends_by_test test b1)) [] (step_behind live dead (λ b1. ends_by_test test b1) [] last (test_step none_shaped test).point (last_behind live dead))) in
        let looped : Taken (inner ++ steps) (tree_points live dead second ++ side_points live dead (side_from stepping own)) =
        stepped_taken live dead scope body at eligible steps stepping (λ rest1 tail1 r1. headed_taken live dead body h.1 h.3 end rest1 tail1 r1)
        (closed live dead steps stepping (pieces_behind live dead step h.4 [] last (last_behind live dead))) own (side_if live dead (any_continues body) (first_point step) steps stepping (side_taken live dead step h.4)) in
        shape_behind live dead (λ b. b) (λ b. loop post first second (side_from stepping own) eligible) (tests ++ (inner ++ steps)) end tail rest (λ b. refl)
        (λ b. take_both tests (inner ++ steps) (tree_points live dead first) (tree_points live dead second ++ side_points live dead (side_from stepping own)) tested looped) r
    piece_behind live dead (tree.pick test labels body end) h tail rest r =
        let unreached = before_arm scope labels 0 body (record (begun end) { exit = break_ }) in
        let before = points_until dead dead labels 0 body in
        let later = points_from live dead labels 0 body in
        shape_behind live dead (λ b. ends_by_cases test labels b) (λ b. switch (parts_of unreached) (targets labels (piece_count body) labels) (other labels (piece_count body) labels) (arms scope labels 0 body end)) (before ++ later) end tail rest
        (cases_step none_shaped test labels).point
        (λ b. take_both before later (parts_points dead dead (parts_of unreached)) (arm_points live dead (arms scope labels 0 body end)) ((before_behind dead dead labels 0 body h).taken (record (begun end) { exit = break_ })) (arms_taken live dead labels 0 body end h)) r
    piece_behind live dead tree.break_ h tail rest r = step_behind live dead (λ b. with_exit break_ b) tail rest (exit_step none_shaped break_).point r
    piece_behind live dead tree.next_ h tail rest r = step_behind live dead (λ b. with_exit continue_ b) tail rest (exit_step none_shaped continue_).point r
    piece_behind live dead (tree.leave call) h tail rest r = step_behind live dead (λ b. with_exit (leave (land_of call)) b) tail rest (exit_step none_shaped (leave (land_of call))).point r
    piece_behind live dead (tree.land call end) h tail rest r = shape_behind live dead (λ b. b) (λ b. land (land_of call)) [] end tail rest (λ b. refl) (λ b. take_none []) r
    piece_behind live dead (tree.mark point) h tail rest r = record {
      first = λ b. r.first b;
      taken = λ b. take_right (listed_if live point) tail (parts_points live dead (parts_of (rest b))) (r.taken b);
    }

    before_behind : (live dead : Bool) (labels : List Label) (i : ℕ) (pieces : PieceTrees) → ArmsBegin labels i pieces → Behind live dead (points_until live dead labels i pieces) (λ b. before_arm scope labels i pieces b)
    before_behind live dead labels i tree.no_pieces h = record { first = λ b. refl; taken = λ b. take_none [] }
    before_behind live dead labels i (tree.then_ piece pieces) h =
        last_if live dead (is_named labels i) (piece_points live dead piece ++ points_until live dead labels (i + 1) pieces) (λ b. lowered_piece scope piece (λ b1. before_arm scope labels (i + 1) pieces b1) b)
        (piece_behind live dead piece h.1 (points_until live dead labels (i + 1) pieces) (λ b1. before_arm scope labels (i + 1) pieces b1) (before_behind live dead labels (i + 1) pieces h.2))

    arms_taken : (live dead : Bool) (labels : List Label) (i : ℕ) (pieces : PieceTrees) (end : Point) → ArmsBegin labels i pieces → Taken (points_from live dead labels i pieces) (arm_points live dead (arms scope labels i pieces end))
    arms_taken live dead labels i tree.no_pieces end h = take_none []
    arms_taken live dead labels i (tree.then_ piece pieces) end h =
        arm_by live dead scope labels (i + 1) piece pieces end (is_named labels i) h.0 (before_behind live dead labels (i + 1) pieces h.2) (arms_taken live dead labels (i + 1) pieces end h.2)
