-- The points of a converted tree are left of those of the tree.
use Rattle.std.proofs.Common.{◌≡◌, ℕ, refl, sym, subst, Bool, ◌&&◌, List, [], ◌∷◌, ◌++◌, Option, Some, None}
use Rattle.hls_base.specs.declared.point.Point.{Point}
use Rattle.ir_core.specs.declared.body.Operand.{Operand}
use Rattle.ir_core.specs.Trees.{BlockTree, SequenceTree, sequence, PartTrees, no_part, more_parts, ShapeTree, fork, loop, switch, land, overlapped, SideTree, no_side, side, ArmTrees, no_arm, more_arms}
use Rattle.passes.specs.Conversion.Merging.{Choice, Branches, branched, is_taken, choices, first_of, branches_of, opened, merged, joined, with_selection, with_selections}
use Rattle.passes.specs.Conversion.Overlapping.{chosen_test, loop_by}
use Rattle.passes.specs.Conversion.{Scope, going_on, part_before, behind, converted_sequence, converted_behind, converted_parts, converted_shape, converted_side, converted_arms}
use Rattle.program_sizes.specs.KeptNodes.Points.{block_points, parts_points, shape_points, side_points, arms_points, IsSublist}
use Rattle.program_sizes.specs.KeptNodes.{ConvertedPointsStay, ConvertedPointsAreThere}
use Rattle.program_sizes.proofs.KeptNodes.Sublists.{left_keep, left_drop, left_all, left_right, left_both, left_left, left_through, left_contained}

-- ---- blocks that are merged

selections_point : (widths : List ℕ) (test : Operand) (b : BlockTree) (cs : List Choice) → (with_selections widths test b cs).point ≡ b.point
selections_point widths test b [] = refl
selections_point widths test b (c ∷ cs) = selections_point widths test (with_selection widths test b c) cs

-- Merged, a block begins where it did.
joined_point : (widths : List ℕ) (b after : BlockTree) (f : Branches) → (joined widths (merged widths b f) after).point ≡ b.point
joined_point widths b after f =
    let yes_ = branched widths b.ops b.outs (Some f.test) (is_taken f.test) f.yes_ in
    let no_ = branched widths yes_.ops b.outs (Some f.test) [] f.no_ in
    selections_point widths f.test (record b { ops = no_.ops }) (choices b.outs yes_.outs no_.outs)

before_points : (shape : ShapeTree) (s : SequenceTree) → parts_points (part_before shape s) ≡ shape_points shape ++ block_points s
before_points shape (sequence first rest) = refl

first_left : (s : SequenceTree) → IsSublist ((first_of s).point ∷ []) (block_points s)
first_left (sequence first rest) = left_keep first.point [] (parts_points rest) tt

-- ---- trees

module _ (scope : Scope) where
  behind_by : (b : BlockTree) (made : ShapeTree) (x : Option Branches) (shape : ShapeTree) (after : BlockTree) (rest : PartTrees) → IsSublist (shape_points made) (shape_points shape)
      → ((c : BlockTree) → IsSublist (block_points (converted_behind scope c rest)) (c.point ∷ parts_points rest))
      → IsSublist (block_points (behind b made x (converted_behind scope (going_on scope.widths b x after) rest))) (b.point ∷ (shape_points shape ++ after.point ∷ parts_points rest))
  behind_by b made None shape after rest h g =
      let later = converted_behind scope (opened after) rest in
      subst (λ l. IsSublist (b.point ∷ l) (b.point ∷ (shape_points shape ++ after.point ∷ parts_points rest))) (sym (before_points made later))
      (left_keep b.point (shape_points made ++ block_points later) (shape_points shape ++ after.point ∷ parts_points rest)
      (left_both (shape_points made) (block_points later) (shape_points shape) (after.point ∷ parts_points rest) h (g (opened after))))
  behind_by b made (Some f) shape after rest h g =
      let one = joined scope.widths (merged scope.widths b f) after in
      let more = parts_points rest in
      left_through (block_points (converted_behind scope one rest)) (b.point ∷ more) (b.point ∷ (shape_points shape ++ after.point ∷ more))
      (subst (λ p. IsSublist (block_points (converted_behind scope one rest)) (p ∷ more)) (joined_point scope.widths b after f) (g one))
      (left_keep b.point more (shape_points shape ++ after.point ∷ more) (left_right more (shape_points shape) (after.point ∷ more) (left_drop after.point more more (left_all more))))

  -- An overlapped loop begins where its body did.
  loop_left : (x : Option Operand) (post : Bool) (t b : SequenceTree) (s : SideTree) (test body : SequenceTree) (step : SideTree) → IsSublist (block_points t) (block_points test) → IsSublist (block_points b) (block_points body)
      → IsSublist (side_points s) (side_points step) → IsSublist (shape_points (loop_by scope.widths x post t b s)) (block_points test ++ (block_points body ++ side_points step))
  loop_left None post t b s test body step h k l =
      left_both (block_points t) (block_points b ++ side_points s) (block_points test) (block_points body ++ side_points step) h (left_both (block_points b) (side_points s) (block_points body) (side_points step) k l)
  loop_left (Some known) post t b s test body step h k l =
      let one : List Point = (first_of b).point ∷ [] in
      left_right one (block_points test) (block_points body ++ side_points step) (left_left one (block_points body) (side_points step) (left_through one (block_points b) (block_points body) (first_left b) k))

  mutual
    sequence_left : (s : SequenceTree) → IsSublist (block_points (converted_sequence scope s)) (block_points s)
    sequence_left (sequence first rest) = behind_left rest (opened first)

    behind_left : (rest : PartTrees) (b : BlockTree) → IsSublist (block_points (converted_behind scope b rest)) (b.point ∷ parts_points rest)
    behind_left no_part b = left_all (b.point ∷ [])
    behind_left (more_parts shape after rest) b = behind_by b (converted_shape scope shape) (branches_of b.exit (converted_shape scope shape)) shape after rest (shape_left shape) (behind_left rest)

    parts_left : (p : PartTrees) → IsSublist (parts_points (converted_parts scope p)) (parts_points p)
    parts_left no_part = tt
    parts_left (more_parts shape after rest) =
        let made = converted_shape scope shape in
        let later = converted_behind scope (opened after) rest in
        subst (λ l. IsSublist l (shape_points shape ++ after.point ∷ parts_points rest)) (sym (before_points made later))
        (left_both (shape_points made) (block_points later) (shape_points shape) (after.point ∷ parts_points rest) (shape_left shape) (behind_left rest (opened after)))

    shape_left : (shape : ShapeTree) → IsSublist (shape_points (converted_shape scope shape)) (shape_points shape)
    shape_left (fork yes_ no_ convertible) = left_both (side_points (converted_side scope yes_)) (side_points (converted_side scope no_)) (side_points yes_) (side_points no_) (side_left yes_) (side_left no_)
    shape_left (loop post test body step eligible) =
        let t = converted_sequence scope test in
        let b = converted_sequence scope body in
        let s = converted_side scope step in
        loop_left (chosen_test (eligible && scope.loops) post t b s) post t b s test body step (sequence_left test) (sequence_left body) (side_left step)
    shape_left (switch dead targets other arms) = left_both (parts_points (converted_parts scope dead)) (arms_points (converted_arms scope arms)) (parts_points dead) (arms_points arms) (parts_left dead) (arms_left arms)
    shape_left (land number) = tt
    shape_left (overlapped point body) = left_all (point ∷ [])

    side_left : (s : SideTree) → IsSublist (side_points (converted_side scope s)) (side_points s)
    side_left no_side = tt
    side_left (side blocks) = sequence_left blocks

    arms_left : (p : ArmTrees) → IsSublist (arms_points (converted_arms scope p)) (arms_points p)
    arms_left no_arm = tt
    arms_left (more_arms first rest) = left_both (block_points (converted_sequence scope first)) (arms_points (converted_arms scope rest)) (block_points first) (arms_points rest) (sequence_left first) (arms_left rest)

pub points_stay : ConvertedPointsStay
points_stay scope blocks = sequence_left scope blocks

pub points_there : ConvertedPointsAreThere
points_there scope blocks point c = left_contained (block_points (converted_sequence scope blocks)) (block_points blocks) point (points_stay scope blocks) c
