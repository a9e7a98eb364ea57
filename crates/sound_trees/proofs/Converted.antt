-- A converted tree is ready, where the bodies of loops that are overlapped are.
use Rattle.std.proofs.Common.{◌≡◌, ℕ, Bool, true, false, ◌&&◌, refl, sym, subst, List, Option, Some, None}
use Rattle.ir_core.specs.declared.body.Operand.{Operand}
use Rattle.ir_core.specs.Bodies.{Shapes}
use Rattle.ir_core.specs.Trees.{branch, BlockTree, BodyTree, SequenceTree, sequence, PartTrees, no_part, more_parts, ShapeTree, fork, loop, switch, land, overlapped, SideTree, no_side, side, ArmTrees, no_arm, more_arms}
use Rattle.passes.specs.Conversion.Merging.{Branches, branches_of, opened, merged, joined, is_only_side, first_block, first_of}
use Rattle.passes.specs.Conversion.Overlapping.{iteration, loop_by, chosen_test, overlapped_test}
use Rattle.passes.specs.Conversion.{Scope, going_on, part_before, behind, converted_sequence, converted_behind, converted_parts, converted_shape, converted_side, converted_arms}
use Rattle.pass_runs.proofs.ConvertRuns.Finding.{fork_found, no_fork_found, loop_is_no_fork, only_alone, IsOverlapped, overlapped_found}
use Rattle.sound_trees.specs.Trees.{SequenceHas, PartsHave, ShapeHas, SideHas, ArmsHave}
use Rattle.sound_trees.specs.Ready.{BlockIsReady}
use Rattle.sound_trees.proofs.Merged.{opened_ready, joined_ready, BranchIsReady, merged_ready}

pub by_option : {A : Type 0} (Q : Option A → Type 0) (x : Option A) → (x ≡ None → Q None) → ((g : A) → x ≡ Some g → Q (Some g)) → Q x
by_option Q None n s = n refl
by_option Q (Some g) n s = s g refl

module _ (shapes : Shapes) (words : List ℕ) (loops : Bool) (N : SequenceTree → SequenceTree → Type 0) (O P : BodyTree → Type 0) where
  abbrev scope : Scope
  scope = record { widths = shapes.widths; loops = loops }

  abbrev B : BlockTree → Type 0
  B = BlockIsReady shapes words true

  -- loops that are not overlapped stay as they are
  abbrev C : SequenceTree → SequenceTree → Type 0
  C t b = Unit {0}

  abbrev Before : SequenceTree → Type 0
  Before = SequenceHas B N O

  abbrev After : SequenceTree → Type 0
  After = SequenceHas B C P

  -- what is asked of a loop that is overlapped
  abbrev pub LoopsFit : Type 0
  LoopsFit = (t b : SequenceTree) (known : Operand) → Before t → Before b → N t b → IsOverlapped false (converted_sequence scope t) (converted_sequence scope b) no_side known
      → P (iteration known (joined shapes.widths (opened (first_of (converted_sequence scope t))) (first_of (converted_sequence scope b))))

  module _ (keeps : (b : BodyTree) → O b → P b) (fits : LoopsFit) where
    pub first_ready : (s : SequenceTree) → After s → B (first_of s)
    first_ready (sequence first rest) h = h.0

    side_first : (s : SideTree) → is_only_side s ≡ true → SideHas B C P s → BranchIsReady shapes words (first_block s)
    side_first no_side e h = tt
    side_first (side blocks) e h = (first_ready blocks h, (only_alone blocks e).1)

    before_ready : (shape : ShapeTree) (blocks : SequenceTree) → ShapeHas B C P shape → After blocks → PartsHave B C P (part_before shape blocks)
    before_ready shape (sequence first rest) h k = (h, k.0, k.1)

    -- a block before a fork that is merged
    pub record IsReadyFork (b : BlockTree) (f : Branches) : Type 0 where
      pub exit : b.exit ≡ branch f.test
      pub yes_ : BranchIsReady shapes words f.yes_
      pub no_ : BranchIsReady shapes words f.no_

    pub fork_ready : (b : BlockTree) (shape : ShapeTree) (f : Branches) → branches_of b.exit (converted_shape scope shape) ≡ Some f → ShapeHas B C P (converted_shape scope shape) → IsReadyFork b f
    fork_ready block (fork yes_ no_ c) f e h =
        let i = fork_found block.exit (converted_side scope yes_) (converted_side scope no_) c f e in
        record {
          exit = i.exit_;
          yes_ = subst (BranchIsReady shapes words) (sym i.yes_same) (side_first (converted_side scope yes_) i.only_yes h.0);
          no_ = subst (BranchIsReady shapes words) (sym i.no_same) (side_first (converted_side scope no_) i.only_no h.1);
        }
    fork_ready block (loop post t b s el) f e h =
        absurd (no_fork_found block.exit _ f
        (loop_is_no_fork shapes.widths (chosen_test (el && loops) post (converted_sequence scope t) (converted_sequence scope b) (converted_side scope s)) post (converted_sequence scope t) (converted_sequence scope b) (converted_side scope s)) e)
    fork_ready block (switch dead targets other arms) f e h = absurd (no_fork_found block.exit _ f tt e)
    fork_ready block (land number) f e h = absurd (no_fork_found block.exit _ f tt e)
    fork_ready block (overlapped point body) f e h = absurd (no_fork_found block.exit _ f tt e)

    block_merged : (b : BlockTree) (f : Branches) → B b → IsReadyFork b f → B (merged shapes.widths b f)
    block_merged b f h i = merged_ready shapes words b f h i.exit i.yes_ i.no_

    both_first : (a c : Bool) → (a && c) ≡ true → a ≡ true
    both_first true c e = refl
    both_first false c e = absurd cc

    loop_ready : (post el : Bool) (t b : SequenceTree) (s : SideTree) → Before t → Before b → (el ≡ true → N t b) → After (converted_sequence scope t) → After (converted_sequence scope b) → SideHas B C P (converted_side scope s)
        → ShapeHas B C P (converted_shape scope (loop post t b s el))
    loop_ready post el t b s ht hb n h k z = by (el && loops) refl where
      found : (known : Operand) → el ≡ true → IsOverlapped post (converted_sequence scope t) (converted_sequence scope b) (converted_side scope s) known
          → P (iteration known (joined shapes.widths (opened (first_of (converted_sequence scope t))) (first_of (converted_sequence scope b))))
      found known e i = fits t b known ht hb (n e) (record { first_ = refl; no_step = refl; only_body = i.only_body; alone = i.alone; exit_ = i.exit_; tests = i.tests })

      by : (c : Bool) → (el && loops) ≡ c
          → ShapeHas B C P (loop_by shapes.widths (chosen_test c post (converted_sequence scope t) (converted_sequence scope b) (converted_side scope s)) post (converted_sequence scope t) (converted_sequence scope b) (converted_side scope s))
      by false q = (h, k, z, λ e. tt)
      by true q =
          by_option (λ x. ShapeHas B C P (loop_by shapes.widths x post (converted_sequence scope t) (converted_sequence scope b) (converted_side scope s)))
          (overlapped_test post (converted_sequence scope t) (converted_sequence scope b) (converted_side scope s)) (λ e. (h, k, z, λ e1. tt))
          (λ known e. found known (both_first el loops q) (overlapped_found post (converted_sequence scope t) (converted_sequence scope b) (converted_side scope s) known e))

    mutual
      pub sequence_ready : (s : SequenceTree) → Before s → After (converted_sequence scope s)
      sequence_ready (sequence first rest) h = rest_ready rest (opened first) (opened_ready shapes words true first h.0) h.1

      rest_ready : (rest : PartTrees) (b : BlockTree) → B b → PartsHave B N O rest → After (converted_behind scope b rest)
      rest_ready no_part b h k = (h, tt)
      rest_ready (more_parts shape after rest) b h k =
          by_option (λ x. After (behind b (converted_shape scope shape) x (converted_behind scope (going_on shapes.widths b x after) rest))) (branches_of b.exit (converted_shape scope shape))
          (λ e. (h, before_ready (converted_shape scope shape) (converted_behind scope (opened after) rest) (shape_ready shape k.0) (rest_ready rest (opened after) (opened_ready shapes words true after k.1) k.2)))
          (λ f e. rest_ready rest (joined shapes.widths (merged shapes.widths b f) after) (joined_ready shapes words (merged shapes.widths b f) after (block_merged b f h (fork_ready b shape f e (shape_ready shape k.0))) k.1) k.2)

      parts_ready : (p : PartTrees) → PartsHave B N O p → PartsHave B C P (converted_parts scope p)
      parts_ready no_part h = tt
      parts_ready (more_parts shape after rest) h = before_ready (converted_shape scope shape) (converted_behind scope (opened after) rest) (shape_ready shape h.0) (rest_ready rest (opened after) (opened_ready shapes words true after h.1) h.2)

      pub shape_ready : (shape : ShapeTree) → ShapeHas B N O shape → ShapeHas B C P (converted_shape scope shape)
      shape_ready (fork yes_ no_ c) h = (side_ready yes_ h.0, side_ready no_ h.1)
      shape_ready (loop post t b s el) h = loop_ready post el t b s h.0 h.1 h.3 (sequence_ready t h.0) (sequence_ready b h.1) (side_ready s h.2)
      shape_ready (switch dead targets other arms) h = (parts_ready dead h.0, arms_ready arms h.1)
      shape_ready (land number) h = tt
      shape_ready (overlapped point body) h = keeps body h

      side_ready : (s : SideTree) → SideHas B N O s → SideHas B C P (converted_side scope s)
      side_ready no_side h = tt
      side_ready (side blocks) h = sequence_ready blocks h

      arms_ready : (p : ArmTrees) → ArmsHave B N O p → ArmsHave B C P (converted_arms scope p)
      arms_ready no_arm h = tt
      arms_ready (more_arms first rest) h = (sequence_ready first h.0, arms_ready rest h.1)
