-- A converted tree is valid, where the bodies of loops that are overlapped are.
use Rattle.std.specs.List.{list_all}
use Rattle.std.proofs.Common.{◌≡◌, Bool, true, false, ◌&&◌, refl, sym, subst, [], Option, Some, None}
use Rattle.ir_core.specs.declared.body.Operand.{Operand}
use Rattle.ir_core.specs.Trees.{branch, BlockTree, BodyTree, SequenceTree, sequence, PartTrees, no_part, more_parts, ShapeTree, fork, loop, switch, land, overlapped, SideTree, no_side, side, ArmTrees, no_arm, more_arms}
use Rattle.passes.specs.Conversion.Merging.{Branches, branches_of, opened, merged, joined, is_only_side, first_block, first_of}
use Rattle.passes.specs.Conversion.Overlapping.{iteration, loop_by, chosen_test, overlapped_test}
use Rattle.passes.specs.Conversion.{Scope, going_on, part_before, behind, converted_sequence, converted_behind, converted_parts, converted_shape, converted_side, converted_arms}
use Rattle.pass_runs.proofs.ConvertRuns.Finding.{fork_found, no_fork_found, loop_is_no_fork, only_alone, overlapped_found}
use Rattle.program_validity.specs.Widths.{is_width}
use Rattle.valid_trees.specs.Shapes.{FrameShape}
use Rattle.valid_trees.specs.Operands.{IsOperand}
use Rattle.valid_trees.specs.Bodies.{BodyOverlaps, ExitIsValid, BlockIsValid, BodyIsValid}
use Rattle.valid_trees.specs.Trees.{SequenceHas, PartsHave, ShapeHas, SideHas, ArmsHave, TreeIsValid}
use Rattle.valid_trees.proofs.ValidNumbering.Adding.{operand_more}
use Rattle.valid_trees.specs.ValidConversion.{LoopsOverlap, scope_of}
use Rattle.valid_trees.proofs.ValidConversion.Merged.{opened_valid, joined_valid, joined_begins, BranchIsValid, merged_valid}
use Rattle.valid_trees.proofs.ValidConversion.Iterations.{iteration_valid}

by_option : {A : Type 0} (Q : Option A → Type 0) (x : Option A) → (x ≡ None → Q None) → ((g : A) → x ≡ Some g → Q (Some g)) → Q x
by_option Q None n s = n refl
by_option Q (Some g) n s = s g refl

-- ---- what holds of bodies where something else does

module _ (B C : BlockTree → Type 0) (P Q : BodyTree → Type 0) where
  mutual
    sequence_both : (s : SequenceTree) → SequenceHas B (λ b. P b → Q b) s → SequenceHas C P s → SequenceHas B Q s
    sequence_both (sequence first rest) h k = (h.0, parts_both rest h.1 k.1)

    parts_both : (p : PartTrees) → PartsHave B (λ b. P b → Q b) p → PartsHave C P p → PartsHave B Q p
    parts_both no_part h k = tt
    parts_both (more_parts shape after rest) h k = (shape_both shape h.0 k.0, h.1, parts_both rest h.2 k.2)

    shape_both : (shape : ShapeTree) → ShapeHas B (λ b. P b → Q b) shape → ShapeHas C P shape → ShapeHas B Q shape
    shape_both (fork yes_ no_ c) h k = (side_both yes_ h.0 k.0, side_both no_ h.1 k.1)
    shape_both (loop post test body step e) h k = (sequence_both test h.0 k.0, sequence_both body h.1 k.1, side_both step h.2 k.2)
    shape_both (switch dead targets other arms) h k = (parts_both dead h.0 k.0, arms_both arms h.1 k.1)
    shape_both (land number) h k = tt
    shape_both (overlapped point body) h k = h k

    side_both : (s : SideTree) → SideHas B (λ b. P b → Q b) s → SideHas C P s → SideHas B Q s
    side_both no_side h k = tt
    side_both (side blocks) h k = sequence_both blocks h k

    arms_both : (p : ArmTrees) → ArmsHave B (λ b. P b → Q b) p → ArmsHave C P p → ArmsHave B Q p
    arms_both no_arm h k = tt
    arms_both (more_arms first rest) h k = (sequence_both first h.0 k.0, arms_both rest h.1 k.1)

-- ---- trees

module _ (frame : FrameShape) (loops : Bool) (all : list_all is_width frame.widths ≡ true) where
  abbrev scope : Scope
  scope = record { widths = frame.widths; loops = loops }

  abbrev B : BlockTree → Type 0
  B = BlockIsValid frame

  abbrev O : BodyTree → Type 0
  O = BodyIsValid frame

  -- valid where it overlaps
  abbrev P : BodyTree → Type 0
  P b = BodyOverlaps b → BodyIsValid frame b

  abbrev After : SequenceTree → Type 0
  After = SequenceHas B P

  first_valid : (s : SequenceTree) → After s → B (first_of s)
  first_valid (sequence first rest) h = h.0

  side_first : (s : SideTree) → is_only_side s ≡ true → SideHas B P s → BranchIsValid frame (first_block s)
  side_first no_side e h = tt
  side_first (side blocks) e h = (first_valid blocks h, (only_alone blocks e).1)

  before_valid : (shape : ShapeTree) (blocks : SequenceTree) → ShapeHas B P shape → After blocks → PartsHave B P (part_before shape blocks)
  before_valid shape (sequence first rest) h k = (h, k.0, k.1)

  -- a block before a fork that is merged
  record IsValidFork (b : BlockTree) (f : Branches) : Type 0 where
    exit : b.exit ≡ branch f.test
    yes_ : BranchIsValid frame f.yes_
    no_ : BranchIsValid frame f.no_

  fork_valid : (b : BlockTree) (shape : ShapeTree) (f : Branches) → branches_of b.exit (converted_shape scope shape) ≡ Some f → ShapeHas B P (converted_shape scope shape) → IsValidFork b f
  fork_valid block (fork yes_ no_ c) f e h =
      let i = fork_found block.exit (converted_side scope yes_) (converted_side scope no_) c f e in
      record {
        exit = i.exit_;
        yes_ = subst (BranchIsValid frame) (sym i.yes_same) (side_first (converted_side scope yes_) i.only_yes h.0);
        no_ = subst (BranchIsValid frame) (sym i.no_same) (side_first (converted_side scope no_) i.only_no h.1);
      }
  fork_valid block (loop post t b s el) f e h =
      absurd (no_fork_found block.exit _ f
      (loop_is_no_fork frame.widths (chosen_test (el && loops) post (converted_sequence scope t) (converted_sequence scope b) (converted_side scope s)) post (converted_sequence scope t) (converted_sequence scope b) (converted_side scope s)) e)
  fork_valid block (switch dead targets other arms) f e h = absurd (no_fork_found block.exit _ f tt e)
  fork_valid block (land number) f e h = absurd (no_fork_found block.exit _ f tt e)
  fork_valid block (overlapped point body) f e h = absurd (no_fork_found block.exit _ f tt e)

  block_merged : (b : BlockTree) (f : Branches) → B b → IsValidFork b f → B (merged frame.widths b f)
  block_merged b f h i = merged_valid frame all b f h i.exit i.yes_ i.no_

  -- ---- loops

  overlapped_valid : (head body : BlockTree) (known : Operand) → B head → B body → head.exit ≡ branch known → P (iteration known (joined frame.widths (opened head) body))
  overlapped_valid head body known h b e o =
      let h1 = opened_valid frame head h in
      let begins = joined_begins frame (opened head) body h1 b in
      let t : IsOperand frame [] head.ops 1 known = subst (ExitIsValid frame head.ops) e h.exit in
      iteration_valid frame known (joined frame.widths (opened head) body) (joined_valid frame (opened head) body h1 b)
      (subst (λ l. IsOperand frame [] l 1 known) (sym begins.1) (operand_more frame [] head.ops begins.0 1 known t)) o

  loop_valid : (post el : Bool) (t b : SequenceTree) (s : SideTree) → After (converted_sequence scope t) → After (converted_sequence scope b) → SideHas B P (converted_side scope s)
      → ShapeHas B P (converted_shape scope (loop post t b s el))
  loop_valid post el t b s h k z = by (el && loops) where
    by : (c : Bool)
        → ShapeHas B P (loop_by frame.widths (chosen_test c post (converted_sequence scope t) (converted_sequence scope b) (converted_side scope s)) post (converted_sequence scope t) (converted_sequence scope b) (converted_side scope s))
    by false = (h, k, z)
    by true =
        by_option (λ x. ShapeHas B P (loop_by frame.widths x post (converted_sequence scope t) (converted_sequence scope b) (converted_side scope s)))
        (overlapped_test post (converted_sequence scope t) (converted_sequence scope b) (converted_side scope s)) (λ e. (h, k, z))
        (λ known e. let i = overlapped_found post (converted_sequence scope t) (converted_sequence scope b) (converted_side scope s) known e in
        overlapped_valid (first_of (converted_sequence scope t)) (first_of (converted_sequence scope b)) known (first_valid (converted_sequence scope t) h) (first_valid (converted_sequence scope b) k) i.exit_)

  mutual
    sequence_valid : (s : SequenceTree) → TreeIsValid frame s → After (converted_sequence scope s)
    sequence_valid (sequence first rest) h = rest_valid rest (opened first) (opened_valid frame first h.0) h.1

    rest_valid : (rest : PartTrees) (b : BlockTree) → B b → PartsHave B O rest → After (converted_behind scope b rest)
    rest_valid no_part b h k = (h, tt)
    rest_valid (more_parts shape after rest) b h k =
        by_option (λ x. After (behind b (converted_shape scope shape) x (converted_behind scope (going_on frame.widths b x after) rest))) (branches_of b.exit (converted_shape scope shape))
        (λ e. (h, before_valid (converted_shape scope shape) (converted_behind scope (opened after) rest) (shape_valid shape k.0) (rest_valid rest (opened after) (opened_valid frame after k.1) k.2)))
        (λ f e. rest_valid rest (joined frame.widths (merged frame.widths b f) after) (joined_valid frame (merged frame.widths b f) after (block_merged b f h (fork_valid b shape f e (shape_valid shape k.0))) k.1) k.2)

    parts_valid : (p : PartTrees) → PartsHave B O p → PartsHave B P (converted_parts scope p)
    parts_valid no_part h = tt
    parts_valid (more_parts shape after rest) h = before_valid (converted_shape scope shape) (converted_behind scope (opened after) rest) (shape_valid shape h.0) (rest_valid rest (opened after) (opened_valid frame after h.1) h.2)

    shape_valid : (shape : ShapeTree) → ShapeHas B O shape → ShapeHas B P (converted_shape scope shape)
    shape_valid (fork yes_ no_ c) h = (side_valid yes_ h.0, side_valid no_ h.1)
    shape_valid (loop post t b s el) h = loop_valid post el t b s (sequence_valid t h.0) (sequence_valid b h.1) (side_valid s h.2)
    shape_valid (switch dead targets other arms) h = (parts_valid dead h.0, arms_valid arms h.1)
    shape_valid (land number) h = tt
    shape_valid (overlapped point body) h = λ o. h

    side_valid : (s : SideTree) → SideHas B O s → SideHas B P (converted_side scope s)
    side_valid no_side h = tt
    side_valid (side blocks) h = sequence_valid blocks h

    arms_valid : (p : ArmTrees) → ArmsHave B O p → ArmsHave B P (converted_arms scope p)
    arms_valid no_arm h = tt
    arms_valid (more_arms first rest) h = (sequence_valid first h.0, arms_valid rest h.1)

pub tree_valid : (frame : FrameShape) (loops : Bool) (blocks : SequenceTree) → list_all is_width frame.widths ≡ true → TreeIsValid frame blocks
    → LoopsOverlap (converted_sequence (scope_of frame loops) blocks) → TreeIsValid frame (converted_sequence (scope_of frame loops) blocks)
tree_valid frame loops blocks all h o = sequence_both (BlockIsValid frame) (λ b. Unit {0}) BodyOverlaps (BodyIsValid frame) (converted_sequence (scope_of frame loops) blocks) (sequence_valid frame loops all blocks h) o
