-- No convertible fork is left where each is merged.
use Rattle.std.proofs.Common.{◌≡◌, ◌∙◌, ℕ, Bool, true, false, ◌&&◌, refl, ap, sym, List, Option, Some, None}
use Rattle.std.specs.Prelude.{is_some}
use Rattle.ir_core.specs.declared.body.Operand.{Operand}
use Rattle.ir_core.specs.declared.body.Out.{Out}
use Rattle.ir_core.specs.Trees.{ExitTree, next, branch, choose, break_, continue_, leave, BlockTree, SequenceTree, sequence, PartTrees, no_part, more_parts, ShapeTree, fork, loop, switch, land, overlapped, SideTree, no_side, side, ArmTrees, no_arm, more_arms}
use Rattle.passes.specs.Numbering.{Value}
use Rattle.passes.specs.Conversion.Joining.{renamed_exit}
use Rattle.passes.specs.Conversion.Merging.{Branches, test_of, opened, branches_by, branches_of}
use Rattle.passes.specs.Conversion.Overlapping.{chosen_test, loop_by}
use Rattle.passes.specs.Conversion.{Scope, going_on, part_before, behind, converted_sequence, converted_behind, converted_parts, converted_shape, converted_side, converted_arms}
use Rattle.lowered_shapes.specs.ConvertedShapes.Converting.{AllConvert, PartsConvert, ShapeConverts, SideConverts, ArmsConvert, HasNoFork, PartsHaveNoFork, ShapeHasNoFork, SideHasNoFork, ArmsHaveNoFork}
use Rattle.lowered_shapes.specs.ConvertedShapes.{NoForkIsLeft}
use Rattle.lowered_shapes.proofs.ConvertedShapes.Lowered.{converts_alike}

test_renamed : (outs : List Out) (values : List Value) (exit : ExitTree) → is_some (test_of (renamed_exit outs values exit)) ≡ is_some (test_of exit)
test_renamed outs values next = refl
test_renamed outs values (branch test) = refl
test_renamed outs values (choose cases) = refl
test_renamed outs values break_ = refl
test_renamed outs values continue_ = refl
test_renamed outs values (leave number) = refl

-- the block that goes on behind a shape ends by a test where the one there does
test_goes_on : (widths : List ℕ) (b : BlockTree) (f : Option Branches) (after : BlockTree) → is_some (test_of after.exit) ≡ is_some (test_of (going_on widths b f after).exit)
test_goes_on widths b None after = refl
test_goes_on widths b (Some f) after = sym (test_renamed _ _ after.exit)

part_left : (shape : ShapeTree) (s : SequenceTree) → ShapeHasNoFork shape → HasNoFork s → PartsHaveNoFork (part_before shape s)
part_left shape (sequence first rest) h k = (h, k)

module _ (scope : Scope) where
  not_convertible : (convertible : Bool) (f : Option Branches) → f ≡ None → (convertible ≡ true → is_some f ≡ true) → convertible ≡ false
  not_convertible false f e h = refl
  not_convertible true f e h = absurd (nothing (sym (ap is_some e) ∙ h refl)) where
    nothing : false ≡ true → ⊥
    nothing q = cc

  loop_left : (known : Option Operand) (post : Bool) (first body : SequenceTree) (step : SideTree) → HasNoFork first → HasNoFork body → SideHasNoFork step → ShapeHasNoFork (loop_by scope.widths known post first body step)
  loop_left None post first body step h k g = (h, k, g)
  loop_left (Some x) post first body step h k g = tt

  mutual
    sequence_left : (s : SequenceTree) → AllConvert scope s → HasNoFork (converted_sequence scope s)
    sequence_left (sequence first rest) h = behind_left (opened first) (test_of first.exit) rest refl h

    behind_left : (b : BlockTree) (test : Option Operand) (parts : PartTrees) → is_some test ≡ is_some (test_of b.exit) → PartsConvert scope test parts → HasNoFork (converted_behind scope b parts)
    behind_left b test no_part e h = tt
    behind_left b test (more_parts shape after rest) e h =
        by (branches_of b.exit (converted_shape scope shape)) refl (shape_left (test_of b.exit) shape (converts_alike scope test (test_of b.exit) e shape h.0))
        (λ f. behind_left (going_on scope.widths b f after) (test_of after.exit) rest (test_goes_on scope.widths b f after) h.1) where
          by : (f : Option Branches) → branches_of b.exit (converted_shape scope shape) ≡ f → (branches_by (test_of b.exit) (converted_shape scope shape) ≡ None → ShapeHasNoFork (converted_shape scope shape))
              → ((g : Option Branches) → HasNoFork (converted_behind scope (going_on scope.widths b g after) rest)) → HasNoFork (behind b (converted_shape scope shape) f (converted_behind scope (going_on scope.widths b f after) rest))
          by None q k further = part_left (converted_shape scope shape) (converted_behind scope (going_on scope.widths b None after) rest) (k q) (further None)
          by (Some f) q k further = further (Some f)

    shape_left : (test : Option Operand) (shape : ShapeTree) → ShapeConverts scope test shape → branches_by test (converted_shape scope shape) ≡ None → ShapeHasNoFork (converted_shape scope shape)
    shape_left test (fork yes_ no_ convertible) h e = (not_convertible convertible (branches_by test (converted_shape scope (fork yes_ no_ convertible))) e h.0, side_left yes_ h.1, side_left no_ h.2)
    shape_left test (loop post first body step eligible) h e =
        loop_left (chosen_test (eligible && scope.loops) post (converted_sequence scope first) (converted_sequence scope body) (converted_side scope step)) post _ _ _ (sequence_left first h.1) (sequence_left body h.2) (side_left step h.3)
    shape_left test (switch dead targets other arms) h e = (parts_left dead h.0, arms_left arms h.1)
    shape_left test (land number) h e = tt
    shape_left test (overlapped point body) h e = tt

    parts_left : (parts : PartTrees) → PartsConvert scope None parts → PartsHaveNoFork (converted_parts scope parts)
    parts_left no_part h = tt
    parts_left (more_parts shape after rest) h = part_left (converted_shape scope shape) (converted_behind scope (opened after) rest) (shape_left None shape h.0 refl) (behind_left (opened after) (test_of after.exit) rest refl h.1)

    side_left : (s : SideTree) → SideConverts scope s → SideHasNoFork (converted_side scope s)
    side_left no_side h = tt
    side_left (side blocks) h = sequence_left blocks h

    arms_left : (a : ArmTrees) → ArmsConvert scope a → ArmsHaveNoFork (converted_arms scope a)
    arms_left no_arm h = tt
    arms_left (more_arms first rest) h = (sequence_left first h.0, arms_left rest h.1)

pub left : NoForkIsLeft
left scope blocks h = sequence_left scope blocks h
