-- Where no two points of a tree are the same, each of them stays or is dropped.
use Rattle.std.proofs.Common.{◌≡◌, ◌∙◌, Bool, true, not, refl, ap, ap₂, sym, subst, List, [], ◌∷◌, ◌++◌, map}
use Rattle.std.specs.Prelude.{is_some, if◌then◌else◌}
use Rattle.hls_base.specs.declared.point.Point.{Point}
use Rattle.hls_base.proofs.SamePoints.{same_point-self, same_point-other}
use Rattle.ir_core.specs.Trees.{BlockTree, SequenceTree, sequence, PartTrees, no_part, more_parts, ShapeTree, fork, loop, switch, land, overlapped, SideTree, no_side, side, ArmTrees, no_arm, more_arms}
use Rattle.passes.specs.Numbering as n
use Rattle.passes.specs.Numbering.{in_loop, numbered_sequence, numbered_parts, numbered_shape, numbered_side, numbered_arms}
use Rattle.passes.specs.Conversion.Merging.{opened, branches_of}
use Rattle.passes.specs.Conversion.{Scope, going_on, converted_shape}
use Rattle.pass_runs.specs.ConvertRuns.Points.{loop_test, Keeps, BehindKeeps, ShapeKeeps, SideKeeps, ArmsKeep}
use Rattle.pass_runs.specs.ConvertRuns.ConvertedTrees.Points.{live_points, points_behind, shape_points, side_points, arm_points, IsAway, AreApart, Mark, mark, marks, marks_behind, shape_marks, side_marks, arm_marks, looked_up, stays_in}
use Rattle.pass_runs.specs.ConvertRuns.ConvertedTrees.{ApartPointsAreKept, NumberedKeepsPoints}

-- ---- lists of marks

joined : (ms ks : List Mark) → map (λ (m : Mark). m.point) (ms ++ ks) ≡ map (λ (m : Mark). m.point) ms ++ map (λ (m : Mark). m.point) ks
joined [] ks = refl
joined (m ∷ ms) ks = ap (λ l. m.point ∷ l) (joined ms ks)

-- each mark says what is asked
abbrev Says : (Point → Bool) → List Mark → Type 0
Says kept [] = Unit {0}
Says kept (m ∷ ms) = (kept m.point ≡ m.stays) × Says kept ms

says_left : (kept : Point → Bool) (ms ks : List Mark) → Says kept (ms ++ ks) → Says kept ms
says_left kept [] ks h = tt
says_left kept (m ∷ ms) ks h = (h.0, says_left kept ms ks h.1)

says_right : (kept : Point → Bool) (ms ks : List Mark) → Says kept (ms ++ ks) → Says kept ks
says_right kept [] ks h = h
says_right kept (m ∷ ms) ks h = says_right kept ms ks h.1

behind_first : (m : Mark) (all ms : List Mark) → IsAway m.point (map (λ (k : Mark). k.point) ms) → Says (looked_up all) ms → Says (looked_up (m ∷ all)) ms
behind_first m all [] h k = tt
behind_first m all (x ∷ ms) h k = (ap (λ b. if b then m.stays else looked_up all x.point) (same_point-other m.point x.point h.0) ∙ k.0, behind_first m all ms h.1 k.1)

all_say : (ms : List Mark) → AreApart (map (λ (m : Mark). m.point) ms) → Says (looked_up ms) ms
all_say [] h = tt
all_say (m ∷ ms) h = (ap (λ b. if b then m.stays else looked_up ms m.point) (same_point-self m.point), behind_first m ms ms h.0 (all_say ms h.1))

-- ---- marks of trees

module _ (scope : Scope) where
  mutual
    marks_points : (stays : Bool) (s : SequenceTree) → map (λ (m : Mark). m.point) (marks scope stays s) ≡ live_points s
    marks_points stays (sequence first rest) = ap (λ l. first.point ∷ l) (behind_points (opened first) rest)

    behind_points : (b : BlockTree) (p : PartTrees) → map (λ (m : Mark). m.point) (marks_behind scope b p) ≡ points_behind p
    behind_points b no_part = refl
    behind_points b (more_parts shape after rest) =
        let stays = not (is_some (branches_of b.exit (converted_shape scope shape))) in
        let on_ = going_on scope.widths b (branches_of b.exit (converted_shape scope shape)) after in
        joined (shape_marks scope stays shape) (mark after.point stays ∷ marks_behind scope on_ rest) ∙ ap₂ (λ (x y : List Point). x ++ after.point ∷ y) (shape_same stays shape) (behind_points on_ rest)

    shape_same : (stays : Bool) (shape : ShapeTree) → map (λ (m : Mark). m.point) (shape_marks scope stays shape) ≡ shape_points shape
    shape_same stays (fork yes_ no_ c) = joined (side_marks scope stays yes_) (side_marks scope stays no_) ∙ ap₂ (λ (x y : List Point). x ++ y) (side_same stays yes_) (side_same stays no_)
    shape_same stays (loop post t b s e) =
        let tested = not (is_some (loop_test scope post t b s e)) in
        joined (marks scope tested t) (marks scope true b ++ side_marks scope true s)
        ∙ ap₂ (λ (x y : List Point). x ++ y) (marks_points tested t) (joined (marks scope true b) (side_marks scope true s) ∙ ap₂ (λ (x y : List Point). x ++ y) (marks_points true b) (side_same true s))
    shape_same stays (switch dead targets other arms) = arms_same arms
    shape_same stays (land number) = refl
    shape_same stays (overlapped point body) = refl

    side_same : (stays : Bool) (s : SideTree) → map (λ (m : Mark). m.point) (side_marks scope stays s) ≡ side_points s
    side_same stays no_side = refl
    side_same stays (side blocks) = marks_points stays blocks

    arms_same : (p : ArmTrees) → map (λ (m : Mark). m.point) (arm_marks scope p) ≡ arm_points p
    arms_same no_arm = refl
    arms_same (more_arms first rest) = joined (marks scope true first) (arm_marks scope rest) ∙ ap₂ (λ (x y : List Point). x ++ y) (marks_points true first) (arms_same rest)

  module _ (kept : Point → Bool) where
    mutual
      keeps : (stays : Bool) (s : SequenceTree) → Says kept (marks scope stays s) → Keeps kept scope stays s
      keeps stays (sequence first rest) h = (h.0, behind_keeps (opened first) rest h.1)

      behind_keeps : (b : BlockTree) (p : PartTrees) → Says kept (marks_behind scope b p) → BehindKeeps kept scope b p
      behind_keeps b no_part h = tt
      behind_keeps b (more_parts shape after rest) h =
          let stays = not (is_some (branches_of b.exit (converted_shape scope shape))) in
          let on_ = going_on scope.widths b (branches_of b.exit (converted_shape scope shape)) after in
          let others = mark after.point stays ∷ marks_behind scope on_ rest in
          let right = says_right kept (shape_marks scope stays shape) others h in
          (shape_keeps stays shape (says_left kept (shape_marks scope stays shape) others h), right.0, behind_keeps on_ rest right.1)

      shape_keeps : (stays : Bool) (shape : ShapeTree) → Says kept (shape_marks scope stays shape) → ShapeKeeps kept scope stays shape
      shape_keeps stays (fork yes_ no_ c) h = (
        side_keeps stays yes_ (says_left kept (side_marks scope stays yes_) (side_marks scope stays no_) h),
        side_keeps stays no_ (says_right kept (side_marks scope stays yes_) (side_marks scope stays no_) h),
      )
      shape_keeps stays (loop post t b s e) h =
          let tested = not (is_some (loop_test scope post t b s e)) in
          let others = marks scope true b ++ side_marks scope true s in
          let right = says_right kept (marks scope tested t) others h in (
            keeps tested t (says_left kept (marks scope tested t) others h),
            keeps true b (says_left kept (marks scope true b) (side_marks scope true s) right),
            side_keeps true s (says_right kept (marks scope true b) (side_marks scope true s) right),
          )
      shape_keeps stays (switch dead targets other arms) h = arms_keep arms h
      shape_keeps stays (land number) h = tt
      shape_keeps stays (overlapped point body) h = tt

      side_keeps : (stays : Bool) (s : SideTree) → Says kept (side_marks scope stays s) → SideKeeps kept scope stays s
      side_keeps stays no_side h = tt
      side_keeps stays (side blocks) h = keeps stays blocks h

      arms_keep : (p : ArmTrees) → Says kept (arm_marks scope p) → ArmsKeep kept scope p
      arms_keep no_arm h = tt
      arms_keep (more_arms first rest) h = (keeps true first (says_left kept (marks scope true first) (arm_marks scope rest) h), arms_keep rest (says_right kept (marks scope true first) (arm_marks scope rest) h))

pub apart : ApartPointsAreKept
apart scope blocks h = keeps scope (stays_in scope blocks) true blocks (all_say (marks scope true blocks) (subst AreApart (sym (marks_points scope true blocks)) h))

-- ---- numbering

mutual
  numbered_points : (scope : n.Scope) (s : SequenceTree) → live_points (numbered_sequence scope s) ≡ live_points s
  numbered_points scope (sequence first rest) = ap (λ l. first.point ∷ l) (numbered_behind scope rest)

  numbered_behind : (scope : n.Scope) (p : PartTrees) → points_behind (numbered_parts scope p) ≡ points_behind p
  numbered_behind scope no_part = refl
  numbered_behind scope (more_parts shape after rest) = ap₂ (λ (x y : List Point). x ++ after.point ∷ y) (numbered_in scope shape) (numbered_behind scope rest)

  numbered_in : (scope : n.Scope) (shape : ShapeTree) → shape_points (numbered_shape scope shape) ≡ shape_points shape
  numbered_in scope (fork yes_ no_ c) = ap₂ (λ (x y : List Point). x ++ y) (numbered_at scope yes_) (numbered_at scope no_)
  numbered_in scope (loop post t b s e) =
      ap₂ (λ (x y : List Point). x ++ y) (numbered_points (in_loop scope e) t) (ap₂ (λ (x y : List Point). x ++ y) (numbered_points (in_loop scope e) b) (numbered_at (in_loop scope e) s))
  numbered_in scope (switch dead targets other arms) = numbered_all scope arms
  numbered_in scope (land number) = refl
  numbered_in scope (overlapped point body) = refl

  numbered_at : (scope : n.Scope) (s : SideTree) → side_points (numbered_side scope s) ≡ side_points s
  numbered_at scope no_side = refl
  numbered_at scope (side blocks) = numbered_points scope blocks

  numbered_all : (scope : n.Scope) (p : ArmTrees) → arm_points (numbered_arms scope p) ≡ arm_points p
  numbered_all scope no_arm = refl
  numbered_all scope (more_arms first rest) = ap₂ (λ (x y : List Point). x ++ y) (numbered_points scope first) (numbered_all scope rest)

pub numbered : NumberedKeepsPoints
numbered scope blocks = numbered_points scope blocks
