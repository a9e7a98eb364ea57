-- In a numbered tree operands are there and have their widths.
use Rattle.std.proofs.Common.{◌≡◌, ◌∙◌, ℕ, refl, List}
use Rattle.ir_core.specs.Trees.{ExitTree, next, branch, choose, break_, continue_, leave, BlockTree, SequenceTree, sequence, PartTrees, no_part, more_parts, ShapeTree, fork, loop, switch, land, overlapped, SideTree, no_side, side, ArmTrees, no_arm, more_arms}
use Rattle.passes.specs.Numbering.{Scope, Value, nothing, in_loop, renamed_exit, numbered_ops, numbered_block, numbered_sequence, numbered_parts, numbered_shape, numbered_side, numbered_arms}
use Rattle.pass_runs.specs.ConvertRuns.Typed.{leads_on, ends_plain, EndsPlain, SequenceIsTyped, PartsAreTyped, ShapeIsTyped, SideIsTyped, ArmsAreTyped}
use Rattle.pass_runs.specs.ConvertRuns.ConvertedTrees.{NumberedIsTyped}
use Rattle.pass_runs.proofs.ConvertRuns.ConvertedTrees.Blocks.{block_typed}

leads_same : (values : List Value) (e : ExitTree) → leads_on (renamed_exit values e) ≡ leads_on e
leads_same values next = refl
leads_same values (branch test) = refl
leads_same values (choose cases) = refl
leads_same values break_ = refl
leads_same values continue_ = refl
leads_same values (leave number) = refl

ends_same : (scope : Scope) (b : BlockTree) (p : PartTrees) → ends_plain (numbered_block scope b).exit (numbered_parts scope p) ≡ ends_plain b.exit p
ends_same scope b no_part = leads_same (numbered_ops scope b.outs nothing b.ops).values b.exit
ends_same scope b (more_parts shape after rest) = ends_same scope after rest

plain : (scope : Scope) (s : SequenceTree) → EndsPlain s → EndsPlain (numbered_sequence scope s)
plain scope (sequence first rest) h = ends_same scope first rest ∙ h

module _ (widths words : List ℕ) where
  mutual
    sequence_typed : (scope : Scope) (s : SequenceTree) → SequenceIsTyped widths words s → SequenceIsTyped widths words (numbered_sequence scope s)
    sequence_typed scope (sequence first rest) h = (block_typed widths words scope first h.0, parts_typed scope rest h.1)

    parts_typed : (scope : Scope) (p : PartTrees) → PartsAreTyped widths words p → PartsAreTyped widths words (numbered_parts scope p)
    parts_typed scope no_part h = tt
    parts_typed scope (more_parts shape after rest) h = (shape_typed scope shape h.0, block_typed widths words scope after h.1, parts_typed scope rest h.2)

    shape_typed : (scope : Scope) (shape : ShapeTree) → ShapeIsTyped widths words shape → ShapeIsTyped widths words (numbered_shape scope shape)
    shape_typed scope (fork yes_ no_ c) h = (side_typed scope yes_ h.0, side_typed scope no_ h.1)
    shape_typed scope (loop post t b s e) h = (sequence_typed (in_loop scope e) t h.0, sequence_typed (in_loop scope e) b h.1, plain (in_loop scope e) b h.2, side_typed (in_loop scope e) s h.3)
    shape_typed scope (switch dead targets other arms) h = arms_typed scope arms h
    shape_typed scope (land number) h = tt
    shape_typed scope (overlapped point body) h = absurd h

    side_typed : (scope : Scope) (s : SideTree) → SideIsTyped widths words s → SideIsTyped widths words (numbered_side scope s)
    side_typed scope no_side h = tt
    side_typed scope (side blocks) h = (sequence_typed scope blocks h.0, plain scope blocks h.1)

    arms_typed : (scope : Scope) (p : ArmTrees) → ArmsAreTyped widths words p → ArmsAreTyped widths words (numbered_arms scope p)
    arms_typed scope no_arm h = tt
    arms_typed scope (more_arms first rest) h = (sequence_typed scope first h.0, plain scope first h.1, arms_typed scope rest h.2)

pub typed : NumberedIsTyped
typed scope words blocks h = sequence_typed scope.widths words scope blocks h
