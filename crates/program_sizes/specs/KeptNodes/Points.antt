-- The points of all blocks of a tree, and lists of which one is left of another.
use Rattle.std.specs.Prelude.{◌≡◌, ◌⊎◌, List, [], ◌∷◌, ◌++◌}
use Rattle.hls_base.specs.declared.point.Point.{Point}
use Rattle.ir_core.specs.Trees.{SequenceTree, sequence, PartTrees, no_part, more_parts, ShapeTree, fork, loop, switch, land, overlapped, SideTree, no_side, side, ArmTrees, no_arm, more_arms}

-- ---- points

-- In order, also those of blocks that are never reached, and of loops that are overlapped.
abbrev mutual
  pub block_points : SequenceTree → List Point
  block_points (sequence first rest) = first.point ∷ parts_points rest

  pub parts_points : PartTrees → List Point
  parts_points no_part = []
  parts_points (more_parts shape after rest) = shape_points shape ++ after.point ∷ parts_points rest

  pub shape_points : ShapeTree → List Point
  shape_points (fork yes_ no_ convertible) = side_points yes_ ++ side_points no_
  shape_points (loop post test body step eligible) = block_points test ++ (block_points body ++ side_points step)
  shape_points (switch dead targets other arms) = parts_points dead ++ arms_points arms
  shape_points (land number) = []
  shape_points (overlapped point body) = point ∷ []

  pub side_points : SideTree → List Point
  side_points no_side = []
  side_points (side blocks) = block_points blocks

  pub arms_points : ArmTrees → List Point
  arms_points no_arm = []
  arms_points (more_arms first rest) = block_points first ++ arms_points rest

-- ---- lists

-- what is left of a list where some of its elements are dropped, in the order in which they stand
abbrev pub IsSublist : {X : Type 0} → List X → List X → Type 0
IsSublist [] ys = Unit {0}
IsSublist (x ∷ xs) [] = ⊥
IsSublist (x ∷ xs) (y ∷ ys) = ((x ≡ y) × IsSublist xs ys) ⊎ IsSublist (x ∷ xs) ys
