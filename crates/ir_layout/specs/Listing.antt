-- A table of the sizes of a tree's sequences, each at the place of its first node.
use Rattle.std.specs.Prelude.{ℕ, suc, ◌+◌, ◌≡◌, List, [], ◌∷◌, ◌++◌, get_or}
use Rattle.ir_core.specs.Trees.{SequenceTree, sequence, PartTrees, no_part, more_parts, ShapeTree, fork, loop, switch, land, overlapped, SideTree, no_side, side, ArmTrees, no_arm, more_arms}
use Rattle.ir_layout.specs.Sizes.{sequence_size, parts_size, side_size}
use Rattle.ir_layout.specs.Layout.{behind_shape, body_start}

-- for each node in order the size of the sequence that begins there, or 0
abbrev mutual
  pub listing : SequenceTree → List ℕ
  listing (sequence first rest) = suc (parts_size rest) ∷ parts_listing rest

  pub parts_listing : PartTrees → List ℕ
  parts_listing no_part = []
  parts_listing (more_parts shape after rest) = shape_listing shape ++ 0 ∷ parts_listing rest

  pub shape_listing : ShapeTree → List ℕ
  shape_listing (fork yes_ no_ convertible) = side_listing yes_ ++ side_listing no_
  shape_listing (loop post test body step eligible) = listing test ++ (listing body ++ side_listing step)
  shape_listing (switch dead targets other arms) = parts_listing dead ++ arms_listing arms
  shape_listing (land number) = []
  shape_listing (overlapped point body) = 0 ∷ []

  pub side_listing : SideTree → List ℕ
  side_listing no_side = []
  side_listing (side blocks) = listing blocks

  pub arms_listing : ArmTrees → List ℕ
  arms_listing no_arm = []
  arms_listing (more_arms first rest) = listing first ++ arms_listing rest

-- whether a table has the sizes of all sequences of a tree whose first node is at this place
abbrev mutual
  pub IsSized : List ℕ → ℕ → SequenceTree → Type 0
  IsSized sizes place (sequence first rest) = (get_or sizes place 0 ≡ suc (parts_size rest)) × ArePartsSized sizes (place + 1) rest

  pub ArePartsSized : List ℕ → ℕ → PartTrees → Type 0
  ArePartsSized sizes place no_part = Unit
  ArePartsSized sizes place (more_parts shape after rest) = IsShapeSized sizes place shape × ArePartsSized sizes (behind_shape place shape + 1) rest

  pub IsShapeSized : List ℕ → ℕ → ShapeTree → Type 0
  IsShapeSized sizes place (fork yes_ no_ convertible) = IsSideSized sizes place yes_ × IsSideSized sizes (place + side_size yes_) no_
  IsShapeSized sizes place (loop post test body step eligible) =
      IsSized sizes place test × (IsSized sizes (body_start place test) body × IsSideSized sizes (body_start place test + sequence_size body) step)
  IsShapeSized sizes place (switch dead targets other arms) = ArePartsSized sizes place dead × AreArmsSized sizes (place + parts_size dead) arms
  IsShapeSized sizes place (land number) = Unit
  IsShapeSized sizes place (overlapped point body) = Unit

  pub IsSideSized : List ℕ → ℕ → SideTree → Type 0
  IsSideSized sizes place no_side = Unit
  IsSideSized sizes place (side blocks) = IsSized sizes place blocks

  pub AreArmsSized : List ℕ → ℕ → ArmTrees → Type 0
  AreArmsSized sizes place no_arm = Unit
  AreArmsSized sizes place (more_arms first rest) = IsSized sizes place first × AreArmsSized sizes (place + sequence_size first) rest

-- the places behind the shapes of these parts
abbrev pub ends_of : ℕ → PartTrees → List ℕ
ends_of place no_part = []
ends_of place (more_parts shape after rest) = behind_shape place shape ∷ ends_of (behind_shape place shape + 1) rest
