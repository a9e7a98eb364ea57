-- Which points are kept: those of blocks that stay.
use Rattle.std.specs.Prelude.{◌≡◌, Bool, true, not, ◌&&◌, Option, None, is_some, if◌then◌else◌}
use Rattle.hls_base.specs.declared.point.Point.{Point}
use Rattle.ir_core.specs.declared.body.Operand.{Operand}
use Rattle.ir_core.specs.Trees.{BlockTree, SequenceTree, sequence, PartTrees, no_part, more_parts, ShapeTree, fork, loop, switch, land, overlapped, SideTree, no_side, side, ArmTrees, no_arm, more_arms}
use Rattle.passes.specs.Conversion.Merging.{opened, branches_of}
use Rattle.passes.specs.Conversion.Overlapping.{overlapped_test}
use Rattle.passes.specs.Conversion.{Scope, going_on, converted_sequence, converted_shape, converted_side}

-- the test of a loop that is overlapped
abbrev pub loop_test : Scope → Bool → SequenceTree → SequenceTree → SideTree → Bool → Option Operand
loop_test scope post test body step eligible =
    if eligible && scope.loops then overlapped_test post (converted_sequence scope test) (converted_sequence scope body) (converted_side scope step) else None

-- The points of blocks that stay are kept, and those of blocks that are merged are not: a block of a fork that is merged, the one behind it, and the first one of the test of a loop that is overlapped, whose body's point is the loop's. So it is asked that no point is one of both.
module _ (kept : Point → Bool) (scope : Scope) where
  abbrev mutual
    -- blocks of which the first one stays or is merged
    pub Keeps : Bool → SequenceTree → Type 0
    Keeps stays (sequence first rest) = (kept first.point ≡ stays) × BehindKeeps (opened first) rest

    -- the parts behind this open block
    pub BehindKeeps : BlockTree → PartTrees → Type 0
    BehindKeeps b no_part = Unit {0}
    BehindKeeps b (more_parts shape after rest) =
        ShapeKeeps (not (is_some (branches_of b.exit (converted_shape scope shape)))) shape
        × (kept after.point ≡ not (is_some (branches_of b.exit (converted_shape scope shape))))
        × BehindKeeps (going_on scope.widths b (branches_of b.exit (converted_shape scope shape)) after) rest

    pub ShapeKeeps : Bool → ShapeTree → Type 0
    ShapeKeeps stays (fork yes_ no_ convertible) = SideKeeps stays yes_ × SideKeeps stays no_
    ShapeKeeps stays (loop post test body step eligible) = Keeps (not (is_some (loop_test scope post test body step eligible))) test × Keeps true body × SideKeeps true step
    ShapeKeeps stays (switch dead targets other arms) = ArmsKeep arms
    ShapeKeeps stays (land number) = Unit {0}
    ShapeKeeps stays (overlapped point body) = Unit {0}

    pub SideKeeps : Bool → SideTree → Type 0
    SideKeeps stays no_side = Unit {0}
    SideKeeps stays (side blocks) = Keeps stays blocks

    pub ArmsKeep : ArmTrees → Type 0
    ArmsKeep no_arm = Unit {0}
    ArmsKeep (more_arms first rest) = Keeps true first × ArmsKeep rest
