-- Trees whose blocks name variables and memories that are there.
use Rattle.std.specs.Prelude.{ℕ, List, [], ◌∷◌}
use Rattle.ir_core.specs.declared.body.Out.{Out}
use Rattle.ir_core.specs.Bodies.{OpTree}
use Rattle.ir_core.specs.Trees.{SequenceTree, sequence, PartTrees, no_part, more_parts, ShapeTree, fork, loop, switch, land, overlapped, SideTree, no_side, side, ArmTrees, no_arm, more_arms}
use Rattle.flat_programs.specs.Machine.Held.{IsThere}
use Rattle.flat_programs.specs.Machine.States.{VariablesThere}

-- so many variables, and memories with these dimensions
module _ (variables : ℕ) (dims : List (List ℕ)) where
  abbrev pub OperationsThere : List OpTree → Type 0
  OperationsThere [] = Unit {0}
  OperationsThere (op ∷ ops) = IsThere op.array dims × OperationsThere ops

  abbrev pub BodyThere : List OpTree → List Out → Type 0
  BodyThere ops outs = VariablesThere outs variables × OperationsThere ops

  abbrev mutual
    pub SequenceThere : SequenceTree → Type 0
    SequenceThere (sequence first rest) = BodyThere first.ops first.outs × PartsThere rest

    pub PartsThere : PartTrees → Type 0
    PartsThere no_part = Unit {0}
    PartsThere (more_parts shape after rest) = ShapeThere shape × BodyThere after.ops after.outs × PartsThere rest

    pub ShapeThere : ShapeTree → Type 0
    ShapeThere (fork yes_ no_ convertible) = SideThere yes_ × SideThere no_
    ShapeThere (loop post test body step eligible) = SequenceThere test × SequenceThere body × SideThere step
    ShapeThere (switch dead targets other arms) = PartsThere dead × ArmsThere arms
    ShapeThere (land number) = Unit {0}
    ShapeThere (overlapped point body) = BodyThere body.ops body.outs

    pub SideThere : SideTree → Type 0
    SideThere no_side = Unit {0}
    SideThere (side blocks) = SequenceThere blocks

    pub ArmsThere : ArmTrees → Type 0
    ArmsThere no_arm = Unit {0}
    ArmsThere (more_arms first rest) = SequenceThere first × ArmsThere rest
