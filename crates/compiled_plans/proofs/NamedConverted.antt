-- Converted trees name what is there.
use Rattle.std.proofs.Common.{◌≡◌, ◌≤◌, ℕ, Bool, true, false, ◌&&◌, sym, subst, List, [], ◌∷◌, map, Some, if◌then◌else◌}
use Rattle.std.specs.Prelude.{get_or}
use Rattle.std.specs.Option.{option_map}
use Rattle.pieces.specs.Program.{ArrayTree}
use Rattle.ir_core.specs.declared.body.Operand.{Operand}
use Rattle.ir_core.specs.declared.body.Out.{Out}
use Rattle.ir_core.specs.declared.body.Source.{Source}
use Rattle.ir_core.specs.declared.body.Source.TheVariants as source
use Rattle.ir_core.specs.Bodies.{OpTree}
use Rattle.ir_core.specs.Trees.{branch, BlockTree, BodyTree, SequenceTree, sequence, PartTrees, no_part, more_parts, ShapeTree, fork, loop, switch, land, overlapped, SideTree, no_side, side, ArmTrees, no_arm, more_arms}
use Rattle.passes.specs.Conversion.Outs.{is_set}
use Rattle.passes.specs.Conversion.Merging.{Branches, branches_of, opened, merged, joined, first_block, first_of}
use Rattle.passes.specs.Conversion.Overlapping.{carried_from, carried, carried_op, carried_out, iteration, loop_by, chosen_test, overlapped_test}
use Rattle.passes.specs.Conversion.{Scope, going_on, part_before, behind, converted_sequence, converted_behind, converted_parts, converted_shape, converted_side, converted_arms}
use Rattle.pass_runs.proofs.ConvertRuns.Finding.{fork_found, no_fork_found, loop_is_no_fork, IsOverlapped, overlapped_found}
use Rattle.sound_trees.specs.Trees.{SequenceHas, PartsHave, ShapeHas, SideHas, ArmsHave}
use Rattle.sound_trees.proofs.Converted.{by_option}
use Rattle.compiled_plans.specs.Operations.{OutsNamed, ExitNamed, BlockNamed, BodyNamed}
use Rattle.compiled_plans.proofs.NamedAdding.{IsNamed, OpsNamed}
use Rattle.compiled_plans.proofs.NamedNumbered.{guard_renamed, op_as}
use Rattle.compiled_plans.proofs.NamedJoined.{opened_named, joined_named, BranchNamed, merged_named}

module _ (count : ℕ) (arrays : List ArrayTree) where
  -- ---- iterations

  carried_named : (outs : List Out) (x : Operand) → IsNamed count arrays x → IsNamed count arrays (carried outs x)
  carried_named outs x n = at x.value where
    by : (c : Bool) → IsNamed count arrays (if c then record x { distance = 1 } else x)
    by true = n
    by false = n

    at : (s : Source) → IsNamed count arrays (carried_from outs x s)
    at (source.Constant w) = n
    at (source.Variable v) = by (is_set outs v)
    at (source.Result i) = n

  ops_carried : (outs : List Out) (ops : List OpTree) → OpsNamed count arrays ops → OpsNamed count arrays (map (carried_op outs) ops)
  ops_carried outs [] h = tt
  ops_carried outs (op ∷ ops) h =
      (op_as count arrays (carried outs) (carried_named outs) op (option_map (carried outs) op.guard) h.0 (guard_renamed count arrays (carried outs) (carried_named outs) op.guard h.0.guard), ops_carried outs ops h.1)

  outs_carried : (outs xs : List Out) → OutsNamed count arrays xs → OutsNamed count arrays (map (carried_out outs) xs)
  outs_carried outs [] h = tt
  outs_carried outs (x ∷ xs) h = ((h.0.0, carried_named outs x.value h.0.1), outs_carried outs xs h.1)

  iteration_named : (test : Operand) (b : BlockTree) → BlockNamed count arrays b → IsNamed count arrays test → BodyNamed count arrays (iteration test b)
  iteration_named test b h n = record { ops = ops_carried b.outs b.ops h.ops; outs = outs_carried b.outs b.outs h.outs; test = carried_named b.outs test n }

  -- ---- trees

  module _ (widths : List ℕ) (small : (v : ℕ) → get_or widths v 64 ≤ 64) (loops : Bool) where
    abbrev scope : Scope
    scope = record { widths = widths; loops = loops }

    abbrev B : BlockTree → Type 0
    B = BlockNamed count arrays

    abbrev L : SequenceTree → SequenceTree → Type 0
    L t b = Unit {0}

    abbrev O : BodyTree → Type 0
    O = BodyNamed count arrays

    abbrev Has : SequenceTree → Type 0
    Has = SequenceHas B L O

    first_named : (s : SequenceTree) → Has s → B (first_of s)
    first_named (sequence first rest) h = h.0

    side_first : (s : SideTree) → SideHas B L O s → BranchNamed count arrays widths small (first_block s)
    side_first no_side h = tt
    side_first (side blocks) h = first_named blocks h

    before_named : (shape : ShapeTree) (blocks : SequenceTree) → ShapeHas B L O shape → Has blocks → PartsHave B L O (part_before shape blocks)
    before_named shape (sequence first rest) h k = (h, k.0, k.1)

    -- a block before a fork that is merged
    record IsNamedFork (b : BlockTree) (f : Branches) : Type 0 where
      exit : b.exit ≡ branch f.test
      yes_ : BranchNamed count arrays widths small f.yes_
      no_ : BranchNamed count arrays widths small f.no_

    fork_named : (b : BlockTree) (shape : ShapeTree) (f : Branches) → branches_of b.exit (converted_shape scope shape) ≡ Some f → ShapeHas B L O (converted_shape scope shape) → IsNamedFork b f
    fork_named block (fork yes_ no_ c) f e h =
        let i = fork_found block.exit (converted_side scope yes_) (converted_side scope no_) c f e in
        record {
          exit = i.exit_;
          yes_ = subst (BranchNamed count arrays widths small) (sym i.yes_same) (side_first (converted_side scope yes_) h.0);
          no_ = subst (BranchNamed count arrays widths small) (sym i.no_same) (side_first (converted_side scope no_) h.1);
        }
    fork_named block (loop post t b s el) f e h =
        absurd (no_fork_found block.exit _ f
        (loop_is_no_fork widths (chosen_test (el && loops) post (converted_sequence scope t) (converted_sequence scope b) (converted_side scope s)) post (converted_sequence scope t) (converted_sequence scope b) (converted_side scope s)) e)
    fork_named block (switch dead targets other arms) f e h = absurd (no_fork_found block.exit _ f tt e)
    fork_named block (land number) f e h = absurd (no_fork_found block.exit _ f tt e)
    fork_named block (overlapped point body) f e h = absurd (no_fork_found block.exit _ f tt e)

    loop_named : (post el : Bool) (t b : SequenceTree) (s : SideTree) → Has (converted_sequence scope t) → Has (converted_sequence scope b) → SideHas B L O (converted_side scope s) → ShapeHas B L O (converted_shape scope (loop post t b s el))
    loop_named post el t b s h k z = by (el && loops) where
      head : BlockTree
      head = first_of (converted_sequence scope t)

      found : (known : Operand) → IsOverlapped post (converted_sequence scope t) (converted_sequence scope b) (converted_side scope s) known
          → O (iteration known (joined widths (opened (first_of (converted_sequence scope t))) (first_of (converted_sequence scope b))))
      found known i =
          let first = first_named (converted_sequence scope t) h in
          iteration_named known (joined widths (opened (first_of (converted_sequence scope t))) (first_of (converted_sequence scope b)))
          (joined_named count arrays widths small (opened (first_of (converted_sequence scope t))) (first_of (converted_sequence scope b)) (opened_named count arrays (first_of (converted_sequence scope t)) first) (first_named (converted_sequence scope b) k))
          (subst (ExitNamed count arrays) i.exit_ first.exit)

      by : (c : Bool) → ShapeHas B L O (loop_by widths (chosen_test c post (converted_sequence scope t) (converted_sequence scope b) (converted_side scope s)) post (converted_sequence scope t) (converted_sequence scope b) (converted_side scope s))
      by false = (h, k, z, λ e. tt)
      by true =
          by_option (λ x. ShapeHas B L O (loop_by widths x post (converted_sequence scope t) (converted_sequence scope b) (converted_side scope s)))
          (overlapped_test post (converted_sequence scope t) (converted_sequence scope b) (converted_side scope s)) (λ e. (h, k, z, λ e1. tt))
          (λ known e. found known (overlapped_found post (converted_sequence scope t) (converted_sequence scope b) (converted_side scope s) known e))

    mutual
      pub sequence_named : (s : SequenceTree) → Has s → Has (converted_sequence scope s)
      sequence_named (sequence first rest) h = rest_named rest (opened first) (opened_named count arrays first h.0) h.1

      rest_named : (rest : PartTrees) (b : BlockTree) → B b → PartsHave B L O rest → Has (converted_behind scope b rest)
      rest_named no_part b h k = (h, tt)
      rest_named (more_parts shape after rest) b h k =
          by_option (λ x. Has (behind b (converted_shape scope shape) x (converted_behind scope (going_on widths b x after) rest))) (branches_of b.exit (converted_shape scope shape))
          (λ e. (h, before_named (converted_shape scope shape) (converted_behind scope (opened after) rest) (shape_named shape k.0) (rest_named rest (opened after) (opened_named count arrays after k.1) k.2)))
          (λ f e. let i = fork_named b shape f e (shape_named shape k.0) in
          rest_named rest (joined widths (merged widths b f) after) (joined_named count arrays widths small (merged widths b f) after (merged_named count arrays widths small b f h i.exit i.yes_ i.no_) k.1) k.2)

      parts_named : (p : PartTrees) → PartsHave B L O p → PartsHave B L O (converted_parts scope p)
      parts_named no_part h = tt
      parts_named (more_parts shape after rest) h = before_named (converted_shape scope shape) (converted_behind scope (opened after) rest) (shape_named shape h.0) (rest_named rest (opened after) (opened_named count arrays after h.1) h.2)

      shape_named : (shape : ShapeTree) → ShapeHas B L O shape → ShapeHas B L O (converted_shape scope shape)
      shape_named (fork yes_ no_ c) h = (side_named yes_ h.0, side_named no_ h.1)
      shape_named (loop post t b s el) h = loop_named post el t b s (sequence_named t h.0) (sequence_named b h.1) (side_named s h.2)
      shape_named (switch dead targets other arms) h = (parts_named dead h.0, arms_named arms h.1)
      shape_named (land number) h = tt
      shape_named (overlapped point body) h = h

      side_named : (s : SideTree) → SideHas B L O s → SideHas B L O (converted_side scope s)
      side_named no_side h = tt
      side_named (side blocks) h = sequence_named blocks h

      arms_named : (p : ArmTrees) → ArmsHave B L O p → ArmsHave B L O (converted_arms scope p)
      arms_named no_arm h = tt
      arms_named (more_arms first rest) h = (sequence_named first h.0, arms_named rest h.1)
