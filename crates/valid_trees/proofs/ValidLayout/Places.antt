-- Where the blocks of a tree lead is among the nodes that it is laid out to.
use Rattle.std.proofs.Common.{◌+◌, ◌<◌, ◌≤◌, ℕ, zero, suc, Bool, true, false, arith, List, [], ◌∷◌, map, Option, Some, None}
use Rattle.std.specs.Prelude.{◌==◌, if◌then◌else◌}
use Rattle.ir_core.specs.Trees.{SequenceTree, PartTrees, no_part, more_parts, ShapeTree, fork, loop, switch, land, overlapped, SideTree, no_side, side, ArmTrees, no_arm, more_arms}
use Rattle.ir_layout.specs.Sizes.{sequence_size, parts_size, side_size, arms_size}
use Rattle.ir_layout.specs.Layout.{Ahead, finish, onto, tested, by_case, Landing, Around, land_place, place_or_first, side_start, arm_start, other_start, body_start, step_start, ahead_of, ahead_of_parts, behind_shape, with_land, lands_in}

-- of so many nodes
module _ (count : ℕ) where
  abbrev pub IsBelowIf : Option ℕ → Type 0
  IsBelowIf None = Unit {0}
  IsBelowIf (Some n) = n < count

  abbrev pub AreBelow : List ℕ → Type 0
  AreBelow [] = Unit {0}
  AreBelow (n ∷ ns) = (n < count) × AreBelow ns

  abbrev pub LandsAreBelow : List Landing → Type 0
  LandsAreBelow [] = Unit {0}
  LandsAreBelow (x ∷ xs) = (x.place < count) × LandsAreBelow xs

  abbrev pub IsAhead : Ahead → Type 0
  IsAhead finish = Unit {0}
  IsAhead (onto n) = n < count
  IsAhead (tested yes_ no_) = (yes_ < count) × (no_ < count)
  IsAhead (by_case cases other) = AreBelow cases × (other < count)

  -- where jumps lead
  pub record IsAround (around : Around) : Type 0 where
    pub leave : IsBelowIf around.leave
    pub again : IsBelowIf around.again
    pub lands : LandsAreBelow around.lands

  -- ---- jumps

  pub land_below : (lands : List Landing) (number : ℕ) → LandsAreBelow lands → IsBelowIf (land_place lands number)
  land_below [] number h = tt
  land_below (x ∷ xs) number h = by (number == x.number) (land_below xs number h.1) where
    by : (c : Bool) → IsBelowIf (land_place xs number) → IsBelowIf (if c then Some x.place else land_place xs number)
    by true rest = h.0
    by false rest = rest

  pub jump_below : (place : Option ℕ) → 0 < count → IsBelowIf place → place_or_first place < count
  jump_below None some h = some
  jump_below (Some n) some h = h

  -- ---- the places at which parts begin

  pub side_below : (place after : ℕ) (s : SideTree) → place < count → after < count → side_start place after s < count
  side_below place after no_side h k = k
  side_below place after (side blocks) h k = h

  arm_low : (place : ℕ) (arms : ArmTrees) (i : ℕ) → arm_start place arms i ≤ place + arms_size arms
  arm_low place no_arm i = omega arith
  arm_low place (more_arms first rest) zero = omega arith
  arm_low place (more_arms first rest) (suc i) = let low = arm_low (place + sequence_size first) rest i in omega (arith, low)

  arms_below : (place : ℕ) (arms : ArmTrees) (targets : List ℕ) → place + arms_size arms < count → AreBelow (map (arm_start place arms) targets)
  arms_below place arms [] h = tt
  arms_below place arms (i ∷ targets) h = (let low = arm_low place arms i in omega (arith, h, low), arms_below place arms targets h)

  other_below : (place after : ℕ) (arms : ArmTrees) (other : Option ℕ) → place + arms_size arms < count → after < count → other_start place after arms other < count
  other_below place after arms None h k = k
  other_below place after arms (Some i) h k = let low = arm_low place arms i in omega (arith, h, low)

  either_below : (c : Bool) (x y : ℕ) → x < count → y < count → (if c then x else y) < count
  either_below true x y h k = h
  either_below false x y h k = k

  pub shape_ahead : (place : ℕ) (shape : ShapeTree) → behind_shape place shape < count → IsAhead (ahead_of place shape)
  shape_ahead place (fork yes_ no_ convertible) h =
      (side_below place (place + (side_size yes_ + side_size no_)) yes_ (omega (arith, h)) h, side_below (place + side_size yes_) (place + (side_size yes_ + side_size no_)) no_ (omega (arith, h)) h)
  shape_ahead place (loop post test body step eligible) h = either_below post (body_start place test) place (omega (arith, h)) (omega (arith, h))
  shape_ahead place (switch dead targets other arms) h =
      (arms_below (place + parts_size dead) arms targets (omega (arith, h)), other_below (place + parts_size dead) (place + (parts_size dead + arms_size arms)) arms other (omega (arith, h)) h)
  shape_ahead place (land number) h = omega (arith, h)
  shape_ahead place (overlapped point body) h = omega (arith, h)

  pub parts_ahead : (place : ℕ) (parts : PartTrees) (ahead : Ahead) → place + parts_size parts ≤ count → IsAhead ahead → IsAhead (ahead_of_parts place parts ahead)
  parts_ahead place no_part ahead h k = k
  parts_ahead place (more_parts shape after rest) ahead h k = shape_ahead place shape (omega (arith, h))

  with_land_below : (place : ℕ) (shape : ShapeTree) (lands : List Landing) → place < count → LandsAreBelow lands → LandsAreBelow (with_land place shape lands)
  with_land_below place (land number) lands h k = (h, k)
  with_land_below place (fork yes_ no_ convertible) lands h k = k
  with_land_below place (loop post test body step eligible) lands h k = k
  with_land_below place (switch dead targets other arms) lands h k = k
  with_land_below place (overlapped point body) lands h k = k

  pub lands_below : (place : ℕ) (parts : PartTrees) (lands : List Landing) → place + parts_size parts ≤ count → LandsAreBelow lands → LandsAreBelow (lands_in place parts lands)
  lands_below place no_part lands h k = k
  lands_below place (more_parts shape after rest) lands h k =
      with_land_below (behind_shape place shape) shape (lands_in (behind_shape place shape + 1) rest lands) (omega (arith, h)) (lands_below (behind_shape place shape + 1) rest lands (omega (arith, h)) k)

  pub step_below : (place : ℕ) (test body : SequenceTree) (step : SideTree) → place + (sequence_size test + (sequence_size body + side_size step)) < count → step_start place test body step < count
  step_below place test body step h = side_below (body_start place test + sequence_size body) place step (omega (arith, h)) (omega (arith, h))
