-- A converted tree names what the tree named.
use Rattle.std.proofs.Common.{◌≡◌, ℕ, Bool, ◌&&◌, refl, sym, subst, List, Option, Some, None}
use Rattle.ir_core.specs.declared.body.Operand.{Operand}
use Rattle.ir_core.specs.Trees.{ExitTree, BlockTree, SequenceTree, sequence, PartTrees, no_part, more_parts, ShapeTree, fork, loop, switch, land, overlapped, SideTree, no_side, side, ArmTrees, no_arm, more_arms}
use Rattle.passes.specs.Conversion.Merging.{Branches, branches_of, opened, merged, joined, first_block, first_of}
use Rattle.passes.specs.Conversion.Overlapping.{loop_by, chosen_test}
use Rattle.passes.specs.Conversion.{Scope, going_on, part_before, behind, converted_sequence, converted_behind, converted_parts, converted_shape, converted_side, converted_arms}
use Rattle.pass_runs.proofs.ConvertRuns.Finding.{fork_found, no_fork_found, loop_is_no_fork}
use Rattle.flat_programs.specs.There.{SequenceThere, PartsThere, ShapeThere, SideThere, ArmsThere}
use Rattle.valid_trees.specs.WholeTrees.{ConvertedIsThere}
use Rattle.valid_trees.proofs.WholeTrees.Joining.{BlockThere, MayBeThere, opened_there, merged_there, behind_there, iteration_there}

by_option : {A : Type 0} (Q : Option A → Type 0) (x : Option A) → (x ≡ None → Q None) → ((g : A) → x ≡ Some g → Q (Some g)) → Q x
by_option Q None n s = n refl
by_option Q (Some g) n s = s g refl

module _ (scope : Scope) (variables : ℕ) (dims : List (List ℕ)) where
  abbrev InSequence : SequenceTree → Type 0
  InSequence = SequenceThere variables dims

  abbrev InShape : ShapeTree → Type 0
  InShape = ShapeThere variables dims

  abbrev Block : BlockTree → Type 0
  Block = BlockThere variables dims

  abbrev test_in : Bool → Bool → SequenceTree → SequenceTree → SideTree → Option Operand
  test_in eligible post t b s = chosen_test (eligible && scope.loops) post (converted_sequence scope t) (converted_sequence scope b) (converted_side scope s)

  first_there : (s : SequenceTree) → InSequence s → Block (first_of s)
  first_there (sequence first rest) h = h.0

  side_first : (s : SideTree) → SideThere variables dims s → MayBeThere variables dims (first_block s)
  side_first no_side h = tt
  side_first (side blocks) h = first_there blocks h

  before_there : (shape : ShapeTree) (blocks : SequenceTree) → InShape shape → InSequence blocks → PartsThere variables dims (part_before shape blocks)
  before_there shape (sequence first rest) h k = (h, k.0, k.1)

  -- the block before a fork that is merged, with it and the block behind it
  going_there : (exit : ExitTree) (shape : ShapeTree) (b after : BlockTree) (f : Branches) → branches_of exit (converted_shape scope shape) ≡ Some f → InShape (converted_shape scope shape) → Block b → Block after
      → Block (joined scope.widths (merged scope.widths b f) after)
  going_there exit (fork yes_ no_ c) b after f e h k a =
      let i = fork_found exit (converted_side scope yes_) (converted_side scope no_) c f e in
      behind_there variables dims scope.widths (merged scope.widths b f) after
      (merged_there variables dims scope.widths b f k (subst (MayBeThere variables dims) (sym i.yes_same) (side_first (converted_side scope yes_) h.0)) (subst (MayBeThere variables dims) (sym i.no_same) (side_first (converted_side scope no_) h.1))) a
  going_there exit (loop post t b s el) block after f e h k a =
      absurd (no_fork_found exit _ f (loop_is_no_fork scope.widths (test_in el post t b s) post (converted_sequence scope t) (converted_sequence scope b) (converted_side scope s)) e)
  going_there exit (switch dead targets other arms) b after f e h k a = absurd (no_fork_found exit _ f tt e)
  going_there exit (land number) b after f e h k a = absurd (no_fork_found exit _ f tt e)
  going_there exit (overlapped point body) b after f e h k a = absurd (no_fork_found exit _ f tt e)

  loop_there : (x : Option Operand) (post : Bool) (t b : SequenceTree) (s : SideTree) → InSequence t → InSequence b → SideThere variables dims s → InShape (loop_by scope.widths x post t b s)
  loop_there None post t b s h k z = (h, k, z)
  loop_there (Some test) post t b s h k z =
      iteration_there variables dims test (joined scope.widths (opened (first_of t)) (first_of b)) (behind_there variables dims scope.widths (opened (first_of t)) (first_of b) (opened_there variables dims (first_of t) (first_there t h)) (first_there b k))

  mutual
    sequence_there : (s : SequenceTree) → InSequence s → InSequence (converted_sequence scope s)
    sequence_there (sequence first rest) h = rest_there rest (opened first) (opened_there variables dims first h.0) h.1

    rest_there : (rest : PartTrees) (b : BlockTree) → Block b → PartsThere variables dims rest → InSequence (converted_behind scope b rest)
    rest_there no_part b h k = (h, tt)
    rest_there (more_parts shape after rest) b h k =
        by_option (λ x. InSequence (behind b (converted_shape scope shape) x (converted_behind scope (going_on scope.widths b x after) rest))) (branches_of b.exit (converted_shape scope shape))
        (λ e. (h, before_there (converted_shape scope shape) (converted_behind scope (opened after) rest) (shape_there shape k.0) (rest_there rest (opened after) (opened_there variables dims after k.1) k.2)))
        (λ f e. rest_there rest (joined scope.widths (merged scope.widths b f) after) (going_there b.exit shape b after f e (shape_there shape k.0) h k.1) k.2)

    parts_there : (p : PartTrees) → PartsThere variables dims p → PartsThere variables dims (converted_parts scope p)
    parts_there no_part h = tt
    parts_there (more_parts shape after rest) h = before_there (converted_shape scope shape) (converted_behind scope (opened after) rest) (shape_there shape h.0) (rest_there rest (opened after) (opened_there variables dims after h.1) h.2)

    shape_there : (shape : ShapeTree) → InShape shape → InShape (converted_shape scope shape)
    shape_there (fork yes_ no_ c) h = (side_there yes_ h.0, side_there no_ h.1)
    shape_there (loop post t b s e) h = loop_there (test_in e post t b s) post (converted_sequence scope t) (converted_sequence scope b) (converted_side scope s) (sequence_there t h.0) (sequence_there b h.1) (side_there s h.2)
    shape_there (switch dead targets other arms) h = (parts_there dead h.0, arms_there arms h.1)
    shape_there (land number) h = tt
    shape_there (overlapped point body) h = h

    side_there : (s : SideTree) → SideThere variables dims s → SideThere variables dims (converted_side scope s)
    side_there no_side h = tt
    side_there (side blocks) h = sequence_there blocks h

    arms_there : (p : ArmTrees) → ArmsThere variables dims p → ArmsThere variables dims (converted_arms scope p)
    arms_there no_arm h = tt
    arms_there (more_arms first rest) h = (sequence_there first h.0, arms_there rest h.1)

pub there : ConvertedIsThere
there scope variables dims blocks h = sequence_there scope variables dims blocks h
