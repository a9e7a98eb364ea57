-- In a converted tree each block is left as what stands behind it asks.
use Rattle.std.proofs.Common.{◌≡◌, ◌∙◌, ℕ, Bool, true, false, ◌&&◌, refl, sym, subst, List, [], Option, Some, None}
use Rattle.ir_core.specs.declared.body.Operand.{Operand}
use Rattle.ir_core.specs.Trees.{ExitTree, BlockTree, SequenceTree, sequence, PartTrees, no_part, more_parts, ShapeTree, fork, loop, switch, land, overlapped, SideTree, no_side, side, ArmTrees, no_arm, more_arms}
use Rattle.passes.specs.Conversion.Joining.{joined_ops}
use Rattle.passes.specs.Conversion.Merging.{Branches, branches_of, opened, merged, joined}
use Rattle.passes.specs.Conversion.Overlapping.{loop_by, chosen_test}
use Rattle.passes.specs.Conversion.{Scope, going_on, part_before, behind, converted_sequence, converted_behind, converted_shape, converted_side, converted_arms}
use Rattle.pass_runs.proofs.ConvertRuns.Finding.{no_fork_found}
use Rattle.ir_layout.specs.WellFormed.{Ahead, one_way, a_test, Inside, ExitFits, ahead_of, ahead_of_parts, with_land, lands_in, before_parts, in_test, in_body, in_step, in_arm, StepFits, SequenceFits, PartsFit, ShapeFits, SideFits, ArmsFit}
use Rattle.pass_runs.specs.ConvertRuns.ConvertedTrees.{ConvertedIsWellFormed}
use Rattle.pass_runs.proofs.ConvertRuns.ConvertedTrees.Exits.{joined_exit, rest_of}

by_option : {A : Type 0} (Q : Option A → Type 0) (x : Option A) → (x ≡ None → Q None) → ((g : A) → x ≡ Some g → Q (Some g)) → Q x
by_option Q None n s = n refl
by_option Q (Some g) n s = s g refl

-- ---- shapes

loop_land : (widths : List ℕ) (x : Option Operand) (post : Bool) (t b : SequenceTree) (s : SideTree) (lands : List ℕ) → with_land (loop_by widths x post t b s) lands ≡ lands
loop_land widths None post t b s lands = refl
loop_land widths (Some test) post t b s lands = refl

loop_ahead : (widths : List ℕ) (x : Option Operand) (post : Bool) (t b : SequenceTree) (s : SideTree) → ahead_of (loop_by widths x post t b s) ≡ one_way
loop_ahead widths None post t b s = refl
loop_ahead widths (Some test) post t b s = refl

module _ (scope : Scope) where
  abbrev test_in : Bool → Bool → SequenceTree → SequenceTree → SideTree → Option Operand
  test_in eligible post t b s = chosen_test (eligible && scope.loops) post (converted_sequence scope t) (converted_sequence scope b) (converted_side scope s)

  land_same : (shape : ShapeTree) (lands : List ℕ) → with_land (converted_shape scope shape) lands ≡ with_land shape lands
  land_same (fork yes_ no_ c) lands = refl
  land_same (loop post t b s e) lands = loop_land scope.widths (test_in e post t b s) post (converted_sequence scope t) (converted_sequence scope b) (converted_side scope s) lands
  land_same (switch dead targets other arms) lands = refl
  land_same (land number) lands = refl
  land_same (overlapped point body) lands = refl

  ahead_same : (shape : ShapeTree) → ahead_of (converted_shape scope shape) ≡ ahead_of shape
  ahead_same (fork yes_ no_ c) = refl
  ahead_same (loop post t b s e) = loop_ahead scope.widths (test_in e post t b s) post (converted_sequence scope t) (converted_sequence scope b) (converted_side scope s)
  ahead_same (switch dead targets other arms) = refl
  ahead_same (land number) = refl
  ahead_same (overlapped point body) = refl

  -- A shape that is merged is a fork, and no place to which blocks leave.
  merged_land : (exit : ExitTree) (shape : ShapeTree) (f : Branches) → branches_of exit (converted_shape scope shape) ≡ Some f → (lands : List ℕ) → with_land shape lands ≡ lands
  merged_land exit (fork yes_ no_ c) f e lands = refl
  merged_land exit (loop post t b s el) f e lands = refl
  merged_land exit (switch dead targets other arms) f e lands = refl
  merged_land exit (land number) f e lands = absurd (no_fork_found exit (land number) f tt e)
  merged_land exit (overlapped point body) f e lands = refl

  -- ---- the places behind a block

  before_lands : (shape : ShapeTree) (blocks : SequenceTree) (lands : List ℕ) → lands_in (part_before shape blocks) lands ≡ with_land shape (lands_in (rest_of blocks) lands)
  before_lands shape (sequence first rest) lands = refl

  behind_lands : (rest : PartTrees) (b : BlockTree) (lands : List ℕ) → lands_in (rest_of (converted_behind scope b rest)) lands ≡ lands_in rest lands
  behind_lands no_part b lands = refl
  behind_lands (more_parts shape after rest) b lands =
      by_option
      (λ x. lands_in (rest_of (behind b (converted_shape scope shape) x (converted_behind scope (going_on scope.widths b x after) rest))) lands ≡ with_land shape (lands_in rest lands))
      (branches_of b.exit (converted_shape scope shape))
      (λ e. before_lands (converted_shape scope shape) (converted_behind scope (opened after) rest) lands ∙ (λ i. land_same shape (behind_lands rest (opened after) lands i) i))
      (λ f e. behind_lands rest (joined scope.widths (merged scope.widths b f) after) lands ∙ sym (merged_land b.exit shape f e (lands_in rest lands)))

  -- ---- a shape before the blocks that go on

  before_fits : (inside : Inside) (ahead : Ahead) (lands : List ℕ) (b : BlockTree) (shape : ShapeTree) (blocks : SequenceTree) → lands_in (rest_of blocks) inside.lands ≡ lands → ExitFits (record inside { lands = with_land shape lands }) (ahead_of shape) b.exit
      → ShapeFits (record inside { lands = lands }) shape → SequenceFits inside ahead blocks → SequenceFits inside ahead (sequence b (part_before shape blocks))
  before_fits inside ahead lands b shape (sequence first rest) e h k z = (
    subst (λ l. ExitFits (record inside { lands = with_land shape l }) (ahead_of shape) b.exit) (sym e) h,
    (subst (λ l. ShapeFits (record inside { lands = l }) shape) (sym e) k, z.0, z.1),
  )

  step_fits : (post : Bool) (s : SideTree) → StepFits post s → StepFits post (converted_side scope s)
  step_fits true no_side h = tt
  step_fits false no_side h = tt
  step_fits true (side blocks) h = absurd h
  step_fits false (side blocks) h = tt

  loop_fits : (inside : Inside) (x : Option Operand) (post : Bool) (t b : SequenceTree) (s : SideTree) → SequenceFits in_test a_test t → SequenceFits (in_body inside) one_way b → SideFits (in_step inside) s → StepFits post s
      → ShapeFits inside (loop_by scope.widths x post t b s)
  loop_fits inside None post t b s h k z y = (h, k, z, y)
  loop_fits inside (Some test) post t b s h k z y = tt

  -- ---- trees

  mutual
    sequence_fits : (inside : Inside) (ahead : Ahead) (s : SequenceTree) → SequenceFits inside ahead s → SequenceFits inside ahead (converted_sequence scope s)
    sequence_fits inside ahead (sequence first rest) h = behind_fits inside ahead rest (opened first) h.0 h.1

    behind_fits : (inside : Inside) (ahead : Ahead) (rest : PartTrees) (b : BlockTree) → ExitFits (before_parts rest inside) (ahead_of_parts rest ahead) b.exit → PartsFit inside ahead rest → SequenceFits inside ahead (converted_behind scope b rest)
    behind_fits inside ahead no_part b h k = (h, tt)
    behind_fits inside ahead (more_parts shape after rest) b h k =
        by_option
        (λ x. SequenceFits inside ahead (behind b (converted_shape scope shape) x (converted_behind scope (going_on scope.widths b x after) rest)))
        (branches_of b.exit (converted_shape scope shape))
        (λ e. before_fits inside ahead (lands_in rest inside.lands) b (converted_shape scope shape) (converted_behind scope (opened after) rest) (behind_lands rest (opened after) inside.lands)
        (subst (λ a. ExitFits (record inside { lands = with_land (converted_shape scope shape) (lands_in rest inside.lands) }) a b.exit) (sym (ahead_same shape))
        (subst (λ l. ExitFits (record inside { lands = l }) (ahead_of shape) b.exit) (sym (land_same shape (lands_in rest inside.lands))) h))
        (shape_fits (before_parts rest inside) shape k.0) (behind_fits inside ahead rest (opened after) k.1 k.2))
        (λ f e. behind_fits inside ahead rest (joined scope.widths (merged scope.widths b f) after)
        (joined_exit (merged scope.widths b f).outs (joined_ops scope.widths (merged scope.widths b f).outs None (record { ops = (merged scope.widths b f).ops; values = []; guards = [] }) after.ops).values (before_parts rest inside) (ahead_of_parts rest ahead) after.exit k.1) k.2)

    shape_fits : (inside : Inside) (shape : ShapeTree) → ShapeFits inside shape → ShapeFits inside (converted_shape scope shape)
    shape_fits inside (fork yes_ no_ c) h = (side_fits inside yes_ h.0, side_fits inside no_ h.1)
    shape_fits inside (loop post t b s e) h =
        loop_fits inside (test_in e post t b s) post (converted_sequence scope t) (converted_sequence scope b) (converted_side scope s) (sequence_fits in_test a_test t h.0) (sequence_fits (in_body inside) one_way b h.1) (side_fits (in_step inside) s h.2) (step_fits post s h.3)
    shape_fits inside (switch dead targets other arms) h = arms_fit (in_arm inside) arms h
    shape_fits inside (land number) h = tt
    shape_fits inside (overlapped point body) h = tt

    side_fits : (inside : Inside) (s : SideTree) → SideFits inside s → SideFits inside (converted_side scope s)
    side_fits inside no_side h = tt
    side_fits inside (side blocks) h = sequence_fits inside one_way blocks h

    arms_fit : (inside : Inside) (p : ArmTrees) → ArmsFit inside p → ArmsFit inside (converted_arms scope p)
    arms_fit inside no_arm h = tt
    arms_fit inside (more_arms first rest) h = (sequence_fits inside one_way first h.0, arms_fit inside rest h.1)

pub well_formed : ConvertedIsWellFormed
well_formed scope blocks h = sequence_fits scope (record { leave = false; again = false; lands = [] }) one_way blocks h
