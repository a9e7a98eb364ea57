-- Trees of which each block has a property, also those that never run.
use Rattle.std.specs.Prelude.{◌≡◌, true}
use Rattle.ir_core.specs.Trees.{BlockTree, BodyTree, SequenceTree, sequence, PartTrees, no_part, more_parts, ShapeTree, fork, loop, switch, land, overlapped, SideTree, no_side, side, ArmTrees, no_arm, more_arms}

-- a property of blocks, one of the test and the body of a loop that may be overlapped, and one of the body of a loop that is
module _ (B : BlockTree → Type 0) (L : SequenceTree → SequenceTree → Type 0) (O : BodyTree → Type 0) where
  abbrev mutual
    pub SequenceHas : SequenceTree → Type 0
    SequenceHas (sequence first rest) = B first × PartsHave rest

    pub PartsHave : PartTrees → Type 0
    PartsHave no_part = Unit {0}
    PartsHave (more_parts shape after rest) = ShapeHas shape × B after × PartsHave rest

    pub ShapeHas : ShapeTree → Type 0
    ShapeHas (fork yes_ no_ convertible) = SideHas yes_ × SideHas no_
    ShapeHas (loop post test body step eligible) = SequenceHas test × SequenceHas body × SideHas step × (eligible ≡ true → L test body)
    ShapeHas (switch dead targets other arms) = PartsHave dead × ArmsHave arms
    ShapeHas (land number) = Unit {0}
    ShapeHas (overlapped point body) = O body

    pub SideHas : SideTree → Type 0
    SideHas no_side = Unit {0}
    SideHas (side blocks) = SequenceHas blocks

    pub ArmsHave : ArmTrees → Type 0
    ArmsHave no_arm = Unit {0}
    ArmsHave (more_arms first rest) = SequenceHas first × ArmsHave rest
