-- The points at which the nodes of a tree begin.
use Rattle.std.proofs.Common.{◌≡◌, ◌∙◌, ℕ, ◌+◌, Bool, true, refl, ap, ap₂, List, [], ◌∷◌, ◌++◌, map, Option}
use Rattle.std.proofs.lemmas.List.{map-append}
use Rattle.hls_base.specs.declared.point.Point.{Point}
use Rattle.hls_base.specs.declared.number.VarId.{VarId}
use Rattle.ir_core.specs.Trees.{SequenceTree, sequence, PartTrees, no_part, more_parts, ShapeTree, fork, loop, switch, land, overlapped, SideTree, no_side, side, ArmTrees, no_arm, more_arms}
use Rattle.passes.specs.Numbering as n
use Rattle.passes.specs.Numbering.{numbered_sequence, numbered_parts, numbered_shape, numbered_side, numbered_arms}
use Rattle.ir_layout.specs.Nodes.{NodeTree, plain, looped}
use Rattle.ir_layout.specs.Layout.{Ahead, Around, laid, laid_parts, laid_shape, laid_side, laid_arms, laid_out, finish}
use Rattle.expanded_pieces.specs.BegunPieces.Points.{listed_if}

-- In order, as it is asked, those of blocks that may run, and those of blocks that are never reached. A loop that is overlapped has one in any case.
abbrev mutual
  pub tree_points : Bool → Bool → SequenceTree → List Point
  tree_points live dead (sequence first rest) = listed_if live first.point ++ parts_points live dead rest

  pub parts_points : Bool → Bool → PartTrees → List Point
  parts_points live dead no_part = []
  parts_points live dead (more_parts shape after rest) = shape_points live dead shape ++ (listed_if live after.point ++ parts_points live dead rest)

  pub shape_points : Bool → Bool → ShapeTree → List Point
  shape_points live dead (fork yes_ no_ convertible) = side_points live dead yes_ ++ side_points live dead no_
  shape_points live dead (loop post test body step eligible) = tree_points live dead test ++ (tree_points live dead body ++ side_points live dead step)
  shape_points live dead (switch unreached targets other arms) = parts_points dead dead unreached ++ arm_points live dead arms
  shape_points live dead (land number) = []
  shape_points live dead (overlapped point body) = point ∷ []

  pub side_points : Bool → Bool → SideTree → List Point
  side_points live dead no_side = []
  side_points live dead (side blocks) = tree_points live dead blocks

  pub arm_points : Bool → Bool → ArmTrees → List Point
  arm_points live dead no_arm = []
  arm_points live dead (more_arms first rest) = tree_points live dead first ++ arm_points live dead rest

-- ---- the nodes that are laid out

abbrev pub point_of : NodeTree → Point
point_of (plain point body end_) = point
point_of (looped point body next_) = point

mutual
  sequence_laid : (around : Around) (ahead : Ahead) (place : ℕ) (s : SequenceTree) → map point_of (laid around ahead place s) ≡ tree_points true true s
  sequence_laid around ahead place (sequence first rest) = ap (λ l. first.point ∷ l) (parts_laid around ahead (place + 1) rest)

  parts_laid : (around : Around) (ahead : Ahead) (place : ℕ) (parts : PartTrees) → map point_of (laid_parts around ahead place parts) ≡ parts_points true true parts
  parts_laid around ahead place no_part = refl
  parts_laid around ahead place (more_parts shape after rest) = map-append point_of _ _ ∙ ap₂ (λ (x y : List Point). x ++ after.point ∷ y) (shape_laid _ place shape) (parts_laid around ahead _ rest)

  shape_laid : (around : Around) (place : ℕ) (shape : ShapeTree) → map point_of (laid_shape around place shape) ≡ shape_points true true shape
  shape_laid around place (fork yes_ no_ convertible) = map-append point_of _ _ ∙ ap₂ (λ (x y : List Point). x ++ y) (side_laid around _ _ yes_) (side_laid around _ _ no_)
  shape_laid around place (loop post test body step eligible) =
      map-append point_of _ _ ∙ ap₂ (λ (x y : List Point). x ++ y) (sequence_laid _ _ place test) (map-append point_of _ _ ∙ ap₂ (λ (x y : List Point). x ++ y) (sequence_laid _ _ _ body) (side_laid _ _ _ step))
  shape_laid around place (switch unreached targets other arms) = map-append point_of _ _ ∙ ap₂ (λ (x y : List Point). x ++ y) (parts_laid _ _ place unreached) (arms_laid _ _ arms)
  shape_laid around place (land number) = refl
  shape_laid around place (overlapped point body) = refl

  side_laid : (around : Around) (after place : ℕ) (s : SideTree) → map point_of (laid_side around after place s) ≡ side_points true true s
  side_laid around after place no_side = refl
  side_laid around after place (side blocks) = sequence_laid around _ place blocks

  arms_laid : (around : Around) (place : ℕ) (arms : ArmTrees) → map point_of (laid_arms around place arms) ≡ arm_points true true arms
  arms_laid around place no_arm = refl
  arms_laid around place (more_arms first rest) = map-append point_of _ _ ∙ ap₂ (λ (x y : List Point). x ++ y) (sequence_laid around _ place first) (arms_laid around _ rest)

pub points_laid : (blocks : SequenceTree) (returned : Option VarId) → map point_of (laid_out blocks returned) ≡ tree_points true true blocks
points_laid blocks returned = sequence_laid _ finish 0 blocks

-- ---- numbering

mutual
  pub numbered_points : (live dead : Bool) (scope : n.Scope) (s : SequenceTree) → tree_points live dead (numbered_sequence scope s) ≡ tree_points live dead s
  numbered_points live dead scope (sequence first rest) = ap (λ l. listed_if live first.point ++ l) (parts_numbered live dead scope rest)

  parts_numbered : (live dead : Bool) (scope : n.Scope) (parts : PartTrees) → parts_points live dead (numbered_parts scope parts) ≡ parts_points live dead parts
  parts_numbered live dead scope no_part = refl
  parts_numbered live dead scope (more_parts shape after rest) = ap₂ (λ (x y : List Point). x ++ (listed_if live after.point ++ y)) (shape_numbered live dead scope shape) (parts_numbered live dead scope rest)

  shape_numbered : (live dead : Bool) (scope : n.Scope) (shape : ShapeTree) → shape_points live dead (numbered_shape scope shape) ≡ shape_points live dead shape
  shape_numbered live dead scope (fork yes_ no_ convertible) = ap₂ (λ (x y : List Point). x ++ y) (side_numbered live dead scope yes_) (side_numbered live dead scope no_)
  shape_numbered live dead scope (loop post test body step eligible) =
      ap₂ (λ (x y : List Point). x ++ y) (numbered_points live dead (n.in_loop scope eligible) test)
      (ap₂ (λ (x y : List Point). x ++ y) (numbered_points live dead (n.in_loop scope eligible) body) (side_numbered live dead (n.in_loop scope eligible) step))
  shape_numbered live dead scope (switch unreached targets other arms) = ap₂ (λ (x y : List Point). x ++ y) (parts_numbered dead dead scope unreached) (arms_numbered live dead scope arms)
  shape_numbered live dead scope (land number) = refl
  shape_numbered live dead scope (overlapped point body) = refl

  side_numbered : (live dead : Bool) (scope : n.Scope) (s : SideTree) → side_points live dead (numbered_side scope s) ≡ side_points live dead s
  side_numbered live dead scope no_side = refl
  side_numbered live dead scope (side blocks) = numbered_points live dead scope blocks

  arms_numbered : (live dead : Bool) (scope : n.Scope) (arms : ArmTrees) → arm_points live dead (numbered_arms scope arms) ≡ arm_points live dead arms
  arms_numbered live dead scope no_arm = refl
  arms_numbered live dead scope (more_arms first rest) = ap₂ (λ (x y : List Point). x ++ y) (numbered_points live dead scope first) (arms_numbered live dead scope rest)
