-- The points of a few statements.
use Rattle.std.proofs.Common.{◌≡◌, refl, false, [], ◌∷◌, None}
use Rattle.hls_base.specs.declared.place.Place.{Place}
use Rattle.hls_base.specs.declared.point.PointKind.TheVariants as point
use Rattle.c_value.specs.Values.{int_type}
use Rattle.pieces.specs.Resolved.Core as core
use Rattle.pieces.specs.Resolved.Core.{CoreTree}
use Rattle.piece_making.specs.Making.{State, then_, emit, inside, next_loop}
use Rattle.piece_making.specs.Calls.{Call, point_in}
use Rattle.c_expand.specs.Expressions.{Callee}
use Rattle.c_expand.specs.Statements.{statement, stepped}
use Rattle.expanded_pieces.specs.ApartPoints.Apart.{AreApart}
use Rattle.expanded_pieces.specs.ApartPoints.Places.{places}
use Rattle.expanded_pieces.proofs.ApartPoints.Quiet.{points_of}

module _ (g : Callee) (c : Call) (at other : Place) (s : State) where
  abbrev one : CoreTree
  one = core.number 1 int_type

  -- a loop without a step has no point of its step
  points_of_a_loop : points_of (statement g c (core.while_ one core.break_ at) false s) ≡ point_in c point.Test at ∷ point_in c point.Body at ∷ point_in c point.End at ∷ []
  unfolding then_ emit inside next_loop stepped
  points_of_a_loop = refl

  -- the second branch of an `if` begins at its `else`
  points_of_an_if : points_of (statement g c (core.if_ one core.break_ (core.else_ other core.continue_) at) false s) ≡ point_in c point.Arm at ∷ point_in c point.Arm other ∷ point_in c point.End at ∷ []
  unfolding then_ emit inside
  points_of_an_if = refl

  -- two calls at one place: their points would be the same
  calls_at_one_place : AreApart (places (core.comma (core.call 0 core.no_argument None at) (core.call 0 core.no_argument None at))) → ⊥
  calls_at_one_place h = h.0.0 refl
