-- The points of a converted tree are points of the tree, each taken once; of those that are left the blocks stay, or are never reached.
use Rattle.std.proofs.Common.{◌≡◌, ◌∙◌, ◌⊎◌, inl, inr, refl, sym, ap, subst, Bool, true, false, not, List, [], ◌∷◌, ◌++◌, Option, Some, None}
use Rattle.std.specs.Prelude.{◌&&◌, is_some}
use Rattle.hls_base.specs.declared.point.Point.{Point}
use Rattle.ir_core.specs.declared.body.Operand.{Operand}
use Rattle.ir_core.specs.Trees.{BlockTree, SequenceTree, sequence, PartTrees, no_part, more_parts, ShapeTree, fork, loop, switch, land, overlapped, SideTree, no_side, side, ArmTrees, no_arm, more_arms}
use Rattle.passes.specs.Conversion.Merging.{Branches, first_of, branches_of, opened, merged, joined}
use Rattle.passes.specs.Conversion.Overlapping.{chosen_test, loop_by}
use Rattle.passes.specs.Conversion.{Scope, going_on, part_before, behind, converted_sequence, converted_behind, converted_parts, converted_shape, converted_side, converted_arms}
use Rattle.pass_runs.specs.ConvertRuns.Points.{loop_test, Keeps, BehindKeeps, ShapeKeeps, SideKeeps, ArmsKeep}
use Rattle.pass_runs.specs.ConvertRuns.ConvertedTrees.Points as blocks
use Rattle.pass_runs.specs.ConvertRuns.ConvertedTrees.Points.{live_points, points_behind}
use Rattle.expanded_pieces.proofs.ApartPoints.Apart.{IsIn, Taken, in_left, in_right, in_either, take_none, take_all, take_both, take_left, take_right, take_keep}
use Rattle.timed_pieces.proofs.FormulaCycles.Kept.{joined_point}
use Rattle.source_answers.proofs.NodePoints.Trees.{tree_points, parts_points, shape_points, side_points, arm_points}

pub take_through : (all some xs : List Point) → Taken all some → Taken some xs → Taken all xs
take_through all some xs d e = record { covers = λ x i. d.covers x (e.covers x i); apart = λ h. e.apart (d.apart h) }

-- ---- all points

abbrev All : SequenceTree → List Point
All s = tree_points true true s

abbrev Parts : PartTrees → List Point
Parts parts = parts_points true true parts

abbrev Shape : ShapeTree → List Point
Shape shape = shape_points true true shape

abbrev Side : SideTree → List Point
Side s = side_points true true s

part_joined : (shape : ShapeTree) (s : SequenceTree) → Parts (part_before shape s) ≡ Shape shape ++ All s
part_joined shape (sequence first rest) = refl

block_joined : (b : BlockTree) (shape : ShapeTree) (s : SequenceTree) → All (sequence b (part_before shape s)) ≡ b.point ∷ (Shape shape ++ All s)
block_joined b shape s = ap (λ l. b.point ∷ l) (part_joined shape s)

first_taken : (s : SequenceTree) → Taken (All s) ((first_of s).point ∷ [])
first_taken (sequence first rest) = take_left (first.point ∷ []) (Parts rest) (first.point ∷ []) (take_all (first.point ∷ []))

module _ (scope : Scope) where
  behind_by : (b : BlockTree) (made : ShapeTree) (o : Option Branches) (shape : ShapeTree) (after : BlockTree) (rest : PartTrees) → Taken (Shape shape) (Shape made) → ((c : BlockTree) → Taken (c.point ∷ Parts rest) (All (converted_behind scope c rest)))
      → Taken (b.point ∷ (Shape shape ++ after.point ∷ Parts rest)) (All (behind b made o (converted_behind scope (going_on scope.widths b o after) rest)))
  behind_by b made None shape after rest h g =
      let later = converted_behind scope (opened after) rest in
      subst (Taken (b.point ∷ (Shape shape ++ after.point ∷ Parts rest))) (sym (block_joined b made later))
      (take_keep b.point (Shape shape ++ after.point ∷ Parts rest) (Shape made ++ All later) (take_both (Shape shape) (after.point ∷ Parts rest) (Shape made) (All later) h (g (opened after))))
  behind_by b made (Some f) shape after rest h g =
      let j = joined scope.widths (merged scope.widths b f) after in
      let later = converted_behind scope j rest in
      let few = Parts rest in
      let most = Shape shape ++ after.point ∷ few in
      take_through (b.point ∷ most) (b.point ∷ few) (All later)
      (take_keep b.point most few (take_right (Shape shape) (after.point ∷ few) few (take_right (after.point ∷ []) few few (take_all few))))
      (subst (λ p. Taken (p ∷ few) (All later)) (joined_point scope.widths b after f) (g j))

  loop_by_taken : (o : Option Operand) (post : Bool) (t b : SequenceTree) (s : SideTree) (test body : SequenceTree) (step : SideTree) → Taken (All t) (All test) → Taken (All b) (All body) → Taken (Side s) (Side step)
      → Taken (All t ++ (All b ++ Side s)) (Shape (loop_by scope.widths o post test body step))
  loop_by_taken None post t b s test body step x y z = take_both (All t) (All b ++ Side s) (All test) (All body ++ Side step) x (take_both (All b) (Side s) (All body) (Side step) y z)
  loop_by_taken (Some known) post t b s test body step x y z =
      let one : List Point = (first_of body).point ∷ [] in
      take_right (All t) (All b ++ Side s) one (take_left (All b) (Side s) one (take_through (All b) (All body) one y (first_taken body)))

  mutual
    pub sequence_taken : (s : SequenceTree) → Taken (All s) (All (converted_sequence scope s))
    sequence_taken (sequence first rest) = behind_taken rest (opened first)

    behind_taken : (rest : PartTrees) (b : BlockTree) → Taken (b.point ∷ Parts rest) (All (converted_behind scope b rest))
    behind_taken no_part b = take_all (b.point ∷ [])
    behind_taken (more_parts shape after rest) b = behind_by b (converted_shape scope shape) (branches_of b.exit (converted_shape scope shape)) shape after rest (shape_taken shape) (behind_taken rest)

    parts_taken : (parts : PartTrees) → Taken (Parts parts) (Parts (converted_parts scope parts))
    parts_taken no_part = take_none []
    parts_taken (more_parts shape after rest) =
        let later = converted_behind scope (opened after) rest in
        subst (Taken (Shape shape ++ after.point ∷ Parts rest)) (sym (part_joined (converted_shape scope shape) later))
        (take_both (Shape shape) (after.point ∷ Parts rest) (Shape (converted_shape scope shape)) (All later) (shape_taken shape) (behind_taken rest (opened after)))

    shape_taken : (shape : ShapeTree) → Taken (Shape shape) (Shape (converted_shape scope shape))
    shape_taken (fork yes_ no_ convertible) = take_both (Side yes_) (Side no_) (Side (converted_side scope yes_)) (Side (converted_side scope no_)) (side_taken yes_) (side_taken no_)
    shape_taken (loop post test body step eligible) =
        loop_by_taken (chosen_test (eligible && scope.loops) post (converted_sequence scope test) (converted_sequence scope body) (converted_side scope step)) post test body step (converted_sequence scope test) (converted_sequence scope body) (converted_side scope step)
        (sequence_taken test) (sequence_taken body) (side_taken step)
    shape_taken (switch unreached targets other arms) =
        take_both (Parts unreached) (arm_points true true arms) (Parts (converted_parts scope unreached)) (arm_points true true (converted_arms scope arms)) (parts_taken unreached) (arms_taken arms)
    shape_taken (land number) = take_none []
    shape_taken (overlapped point body) = take_all (point ∷ [])

    side_taken : (s : SideTree) → Taken (Side s) (Side (converted_side scope s))
    side_taken no_side = take_none []
    side_taken (side blocks) = sequence_taken blocks

    arms_taken : (arms : ArmTrees) → Taken (arm_points true true arms) (arm_points true true (converted_arms scope arms))
    arms_taken no_arm = take_none []
    arms_taken (more_arms first rest) = take_both (All first) (arm_points true true rest) (All (converted_sequence scope first)) (arm_points true true (converted_arms scope rest)) (sequence_taken first) (arms_taken rest)

  -- ---- points that stay

  -- the point is kept and one of these, or is one of those that are never reached
  abbrev pub Found : (Point → Bool) → Point → List Point → List Point → Type 0
  Found kept q lives deads = ((kept q ≡ true) × IsIn q lives) ⊎ IsIn q deads

  module _ (kept : Point → Bool) (q : Point) where
    found_left : (xs ys ds es : List Point) → Found kept q xs ds → Found kept q (xs ++ ys) (ds ++ es)
    found_left xs ys ds es (inl h) = inl (h.0, in_left q xs ys h.1)
    found_left xs ys ds es (inr i) = inr (in_left q ds es i)

    found_right : (xs ys ds es : List Point) → Found kept q ys es → Found kept q (xs ++ ys) (ds ++ es)
    found_right xs ys ds es (inl h) = inl (h.0, in_right q xs ys h.1)
    found_right xs ys ds es (inr i) = inr (in_right q ds es i)

    found_both : (ps qs xs ys ds es : List Point) → (IsIn q ps → Found kept q xs ds) → (IsIn q qs → Found kept q ys es) → IsIn q (ps ++ qs) → Found kept q (xs ++ ys) (ds ++ es)
    found_both ps qs xs ys ds es h g i = by (in_either q ps qs i) where
      by : IsIn q ps ⊎ IsIn q qs → Found kept q (xs ++ ys) (ds ++ es)
      by (inl j) = found_left xs ys ds es (h j)
      by (inr j) = found_right xs ys ds es (g j)

    abbrev FoundIn : SequenceTree → Type 0
    FoundIn s = Found kept q (live_points s) (tree_points false true s)

    abbrev Behind : PartTrees → Type 0
    Behind rest = Found kept q (points_behind rest) (parts_points false true rest)

    -- the point of the open block, or found behind it
    abbrev First : Point → PartTrees → Type 0
    First p rest = (q ≡ p) ⊎ Behind rest

    first_found : (p : Point) (rest : PartTrees) → kept p ≡ true → First p rest → Found kept q (p ∷ points_behind rest) (parts_points false true rest)
    first_found p rest k (inl e) = inl (ap kept e ∙ k, inl e)
    first_found p rest k (inr (inl h)) = inl (h.0, inr h.1)
    first_found p rest k (inr (inr i)) = inr i

    later_found : (shape : ShapeTree) (p : Point) (rest : PartTrees) → Behind rest → Found kept q (blocks.shape_points shape ++ p ∷ points_behind rest) (shape_points false true shape ++ parts_points false true rest)
    later_found shape p rest (inl h) = inl (h.0, in_right q (blocks.shape_points shape) (p ∷ points_behind rest) (inr h.1))
    later_found shape p rest (inr i) = inr (in_right q (shape_points false true shape) (parts_points false true rest) i)

    behind_found_by : (b : BlockTree) (made : ShapeTree) (o : Option Branches) (shape : ShapeTree) (after : BlockTree) (rest : PartTrees)
        → (ShapeKeeps kept scope (not (is_some o)) shape × (kept after.point ≡ not (is_some o)) × BehindKeeps kept scope (going_on scope.widths b o after) rest)
        → (ShapeKeeps kept scope true shape → IsIn q (Shape made) → Found kept q (blocks.shape_points shape) (shape_points false true shape))
        → ((c : BlockTree) → BehindKeeps kept scope c rest → IsIn q (All (converted_behind scope c rest)) → First c.point rest)
        → IsIn q (All (behind b made o (converted_behind scope (going_on scope.widths b o after) rest)))
        → (q ≡ b.point) ⊎ Found kept q (blocks.shape_points shape ++ after.point ∷ points_behind rest) (shape_points false true shape ++ parts_points false true rest)
    behind_found_by b made None shape after rest k h g i = by (subst (IsIn q) (block_joined b made (converted_behind scope (opened after) rest)) i) where
      at : IsIn q (Shape made) ⊎ IsIn q (All (converted_behind scope (opened after) rest)) → Found kept q (blocks.shape_points shape ++ after.point ∷ points_behind rest) (shape_points false true shape ++ parts_points false true rest)
      at (inl j) = found_left (blocks.shape_points shape) (after.point ∷ points_behind rest) (shape_points false true shape) (parts_points false true rest) (h k.0 j)
      at (inr j) =
          found_right (blocks.shape_points shape) (after.point ∷ points_behind rest) (shape_points false true shape) (parts_points false true rest) (first_found after.point rest k.1 (g (opened after) k.2 j))

      by : IsIn q (b.point ∷ (Shape made ++ All (converted_behind scope (opened after) rest))) → (q ≡ b.point) ⊎ Found kept q (blocks.shape_points shape ++ after.point ∷ points_behind rest) (shape_points false true shape ++ parts_points false true rest)
      by (inl e) = inl e
      by (inr j) = inr (at (in_either q (Shape made) (All (converted_behind scope (opened after) rest)) j))
    behind_found_by b made (Some f) shape after rest k h g i = by (g (joined scope.widths (merged scope.widths b f) after) k.2 i) where
      by : First (joined scope.widths (merged scope.widths b f) after).point rest → (q ≡ b.point) ⊎ Found kept q (blocks.shape_points shape ++ after.point ∷ points_behind rest) (shape_points false true shape ++ parts_points false true rest)
      by (inl e) = inl (e ∙ joined_point scope.widths b after f)
      by (inr j) = inr (later_found shape after.point rest j)

    loop_found_by : (o : Option Operand) (post : Bool) (t b : SequenceTree) (s : SideTree) (test body : SequenceTree) (step : SideTree)
        → (Keeps kept scope (not (is_some o)) t × Keeps kept scope true b × SideKeeps kept scope true s)
        → (Keeps kept scope true t → IsIn q (All test) → FoundIn t) → (IsIn q (All body) → FoundIn b) → (IsIn q (Side step) → Found kept q (blocks.side_points s) (side_points false true s))
        → IsIn q (Shape (loop_by scope.widths o post test body step)) → Found kept q (live_points t ++ (live_points b ++ blocks.side_points s)) (tree_points false true t ++ (tree_points false true b ++ side_points false true s))
    loop_found_by None post t b s test body step k x y z i =
        found_both (All test) (All body ++ Side step) (live_points t) (live_points b ++ blocks.side_points s) (tree_points false true t) (tree_points false true b ++ side_points false true s) (x k.0)
        (found_both (All body) (Side step) (live_points b) (blocks.side_points s) (tree_points false true b) (side_points false true s) y z) i
    loop_found_by (Some known) post t b s test body step k x y z i =
        found_right (live_points t) (live_points b ++ blocks.side_points s) (tree_points false true t) (tree_points false true b ++ side_points false true s)
        (found_left (live_points b) (blocks.side_points s) (tree_points false true b) (side_points false true s) (y ((first_taken body).covers q i)))

    mutual
      pub sequence_found : (s : SequenceTree) → Keeps kept scope true s → IsIn q (All (converted_sequence scope s)) → FoundIn s
      sequence_found (sequence first rest) k i = first_found first.point rest k.0 (behind_found rest (opened first) k.1 i)

      behind_found : (rest : PartTrees) (b : BlockTree) → BehindKeeps kept scope b rest → IsIn q (All (converted_behind scope b rest)) → First b.point rest
      behind_found no_part b k (inl e) = inl e
      behind_found no_part b k (inr i) = absurd i
      behind_found (more_parts shape after rest) b k i =
          behind_found_by b (converted_shape scope shape) (branches_of b.exit (converted_shape scope shape)) shape after rest k (shape_found shape) (behind_found rest) i

      shape_found : (shape : ShapeTree) → ShapeKeeps kept scope true shape → IsIn q (Shape (converted_shape scope shape)) → Found kept q (blocks.shape_points shape) (shape_points false true shape)
      shape_found (fork yes_ no_ convertible) k i =
          found_both (Side (converted_side scope yes_)) (Side (converted_side scope no_)) (blocks.side_points yes_) (blocks.side_points no_) (side_points false true yes_) (side_points false true no_) (side_found yes_ k.0) (side_found no_ k.1) i
      shape_found (loop post test body step eligible) k i =
          loop_found_by (loop_test scope post test body step eligible) post test body step (converted_sequence scope test) (converted_sequence scope body) (converted_side scope step) k (sequence_found test) (sequence_found body k.1) (side_found step k.2) i
      shape_found (switch unreached targets other arms) k i =
          by (in_either q (Parts (converted_parts scope unreached)) (arm_points true true (converted_arms scope arms)) i) (arms_found arms k)
        where
          by : IsIn q (Parts (converted_parts scope unreached)) ⊎ IsIn q (arm_points true true (converted_arms scope arms)) → (IsIn q (arm_points true true (converted_arms scope arms)) → Found kept q (blocks.arm_points arms) (arm_points false true arms))
              → Found kept q (blocks.arm_points arms) (Parts unreached ++ arm_points false true arms)
          by (inl j) h = inr (in_left q (Parts unreached) (arm_points false true arms) ((parts_taken unreached).covers q j))
          by (inr j) h = found_right [] (blocks.arm_points arms) (Parts unreached) (arm_points false true arms) (h j)
      shape_found (land number) k i = absurd i
      shape_found (overlapped point body) k i = inr i

      side_found : (s : SideTree) → SideKeeps kept scope true s → IsIn q (Side (converted_side scope s)) → Found kept q (blocks.side_points s) (side_points false true s)
      side_found no_side k i = absurd i
      side_found (side blocks_) k i = sequence_found blocks_ k i

      arms_found : (arms : ArmTrees) → ArmsKeep kept scope arms → IsIn q (arm_points true true (converted_arms scope arms)) → Found kept q (blocks.arm_points arms) (arm_points false true arms)
      arms_found no_arm k i = absurd i
      arms_found (more_arms first rest) k i =
          found_both (All (converted_sequence scope first)) (arm_points true true (converted_arms scope rest)) (live_points first) (blocks.arm_points rest) (tree_points false true first) (arm_points false true rest) (sequence_found first k.0) (arms_found rest k.1) i
