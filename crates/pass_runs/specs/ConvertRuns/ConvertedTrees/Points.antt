-- The points of a tree, and which of them stay where it is converted.
use Rattle.std.specs.Prelude.{◌≢◌, Bool, true, false, not, List, [], ◌∷◌, ◌++◌, is_some, if◌then◌else◌}
use Rattle.hls_base.specs.declared.point.Point.{Point}
use Rattle.hls_base.specs.Tallies.{same_point}
use Rattle.ir_core.specs.Trees.{BlockTree, SequenceTree, sequence, PartTrees, no_part, more_parts, ShapeTree, fork, loop, switch, land, overlapped, SideTree, no_side, side, ArmTrees, no_arm, more_arms}
use Rattle.passes.specs.Conversion.Merging.{opened, branches_of}
use Rattle.passes.specs.Conversion.{Scope, going_on, converted_shape}
use Rattle.pass_runs.specs.ConvertRuns.Points.{loop_test}

-- ---- the points of blocks that may run, in order

abbrev mutual
  pub live_points : SequenceTree → List Point
  live_points (sequence first rest) = first.point ∷ points_behind rest

  pub points_behind : PartTrees → List Point
  points_behind no_part = []
  points_behind (more_parts shape after rest) = shape_points shape ++ after.point ∷ points_behind rest

  pub shape_points : ShapeTree → List Point
  shape_points (fork yes_ no_ convertible) = side_points yes_ ++ side_points no_
  shape_points (loop post test body step eligible) = live_points test ++ (live_points body ++ side_points step)
  shape_points (switch dead targets other arms) = arm_points arms
  shape_points (land number) = []
  shape_points (overlapped point body) = []

  pub side_points : SideTree → List Point
  side_points no_side = []
  side_points (side blocks) = live_points blocks

  pub arm_points : ArmTrees → List Point
  arm_points no_arm = []
  arm_points (more_arms first rest) = live_points first ++ arm_points rest

abbrev pub IsAway : Point → List Point → Type 0
IsAway p [] = Unit {0}
IsAway p (q ∷ qs) = (p ≢ q) × IsAway p qs

-- no two are the same
abbrev pub AreApart : List Point → Type 0
AreApart [] = Unit {0}
AreApart (p ∷ ps) = IsAway p ps × AreApart ps

-- ---- which of them stay

-- the point of a block, and whether it stays
pub record Mark : Type 0 where
  pub point : Point
  pub stays : Bool

abbrev pub mark : Point → Bool → Mark
mark point stays = record { point = point; stays = stays }

module _ (scope : Scope) where
  abbrev mutual
    -- blocks of which the first one stays or is merged
    pub marks : Bool → SequenceTree → List Mark
    marks stays (sequence first rest) = mark first.point stays ∷ marks_behind (opened first) rest

    -- the parts behind this open block
    pub marks_behind : BlockTree → PartTrees → List Mark
    marks_behind b no_part = []
    marks_behind b (more_parts shape after rest) =
        shape_marks (not (is_some (branches_of b.exit (converted_shape scope shape)))) shape
        ++ mark after.point (not (is_some (branches_of b.exit (converted_shape scope shape)))) ∷ marks_behind (going_on scope.widths b (branches_of b.exit (converted_shape scope shape)) after) rest

    pub shape_marks : Bool → ShapeTree → List Mark
    shape_marks stays (fork yes_ no_ convertible) = side_marks stays yes_ ++ side_marks stays no_
    shape_marks stays (loop post test body step eligible) = marks (not (is_some (loop_test scope post test body step eligible))) test ++ (marks true body ++ side_marks true step)
    shape_marks stays (switch dead targets other arms) = arm_marks arms
    shape_marks stays (land number) = []
    shape_marks stays (overlapped point body) = []

    pub side_marks : Bool → SideTree → List Mark
    side_marks stays no_side = []
    side_marks stays (side blocks) = marks stays blocks

    pub arm_marks : ArmTrees → List Mark
    arm_marks no_arm = []
    arm_marks (more_arms first rest) = marks true first ++ arm_marks rest

-- what the first mark of this point says
abbrev pub looked_up : List Mark → Point → Bool
looked_up [] p = false
looked_up (m ∷ ms) p = if same_point m.point p then m.stays else looked_up ms p

-- the points that stay
abbrev pub stays_in : Scope → SequenceTree → Point → Bool
stays_in scope blocks = looked_up (marks scope true blocks)
