-- The laws of lowered blocks.
use Rattle.std.proofs.Common.{◌≡◌, refl, ap, Option, Some, None}
use Rattle.std.specs.Prelude.{slice_get}
use Rattle.pieces.specs.Program.{ArrayTree}
use Rattle.c_meaning.specs.PieceRuns.Pieces as piece
use Rattle.ir_core.specs.Bodies.{Ranged}
use Rattle.passes.specs.Lowering.Blocks as block
use Rattle.pass_runs.specs.LowerRuns.{ValuesAreComputed, ConditionsAreComputed, SetsAreShown, PutsAreShown}
use Rattle.pass_runs.proofs.LowerRuns.OperatorWords.Conversions.{naturals_are_words}
use Rattle.pass_runs.proofs.LowerRuns.OperatorWords.Resizing.{conversions_agree}
use Rattle.pass_runs.proofs.LowerRuns.OperatorWords.Whole.{operators_agree}
use Rattle.pass_runs.proofs.LowerRuns.Straight.{value_computed, condition_computed, set_shown}
use Rattle.pass_runs.proofs.LowerRuns.Writing.{put_shown}

pub values_computed : ValuesAreComputed
values_computed f hidden t b r s at x k n suits is_ =
    let h = value_computed f hidden t conversions_agree operators_agree naturals_are_words b r s at.stands at.shows x k n suits is_ in
    (h.next, h.stands, ap (λ (y : Ranged). y.words) h.grows.same, h.holds)

pub conditions_computed : ConditionsAreComputed
conditions_computed f hidden t b r s at x n suits is_ =
    let h = condition_computed f hidden t conversions_agree operators_agree naturals_are_words b r s at.stands at.shows x n suits is_ in
    (h.next, h.stands, ap (λ (y : Ranged). y.words) h.grows.same, h.holds)

pub sets_shown : SetsAreShown
sets_shown f hidden t b r s at v x k n there suits is_ =
    let h = set_shown f hidden t conversions_agree operators_agree naturals_are_words b r s at.stands at.shows v x k n there suits is_ in
    (h.next, record { stands = h.stands; shows = h.shows })

same_kind : (a : Option ArrayTree) → block.kind_in a ≡ piece.kind_in a
same_kind None = refl
same_kind (Some a) = refl

pub puts_shown : PutsAreShown
puts_shown f hidden t b r s at array subs x place is_ i n short suits_subs suits_x subs_are x_is there =
    let h = put_shown f hidden t conversions_agree operators_agree naturals_are_words b r s at.stands at.shows array subs x place (piece.kind_at f.arrays array.0) is_ i n refl (same_kind (slice_get f.arrays array.0)) short suits_subs suits_x subs_are x_is there in
    (h.next, record { stands = h.stands; shows = h.shows })
