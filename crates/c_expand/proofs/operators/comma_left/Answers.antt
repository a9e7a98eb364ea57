use Rattle.std.proofs.Common.{Bool, sym, ap}
use Rattle.pieces.specs.View.{pure_of}
use Rattle.piece_making.specs.Stocks.{stock, state_of}
use Rattle.piece_making.proofs.Exits.{through, IfOk-weaker, IfRefused-weaker}
use Rattle.piece_making.proofs.Parts.{nothing_made, made_behind, heavy_at_once, heavy_behind}
use Rattle.c_expand.specs.Expressions.{discarded}
use Rattle.c_expand.proofs.Leading.{made_as, heavy_as, first_made, second_made, second_heavy}
use Rattle.c_expand.proofs.operators.comma_left.Goals as goal

pub returns-then-is_call-clause-made : goal.returns-then-is_call-clause-made
returns-then-is_call-clause-made c = first_made _ _ _ _ _ _ (sym c.if-is_call.ensures) (nothing_made _ _)

pub returns-in_err-value-clause-refused : goal.returns-in_err-value-clause-refused
returns-in_err-value-clause-refused c =
    through _ c.in_err-value.field-0.0 _ _ c.from_residual.ensures.1 (λ y e. e) c.in_err-value.ensures.refused
    (λ r h. second_heavy _ _ _ _ _ (sym c.if-is_call.ensures) (heavy_at_once _ _ _ _ h))

pub returns-in_ok-value-clause-made : goal.returns-in_ok-value-clause-made
returns-in_ok-value-clause-made c =
    IfOk-weaker c.discard.result _ _
    (λ v h. second_made _ _ _ _ _ _ (sym c.if-is_call.ensures)
    (made_behind _ _ _ _ _ _ _ c.in_ok-value.ensures.made (made_as _ _ _ _ _ (ap (λ (b : Bool). discarded b (pure_of c.in_ok-value.value) (state_of (stock c.save.new.work))) c.may_be_unused.ensures) h)))
    c.discard.ensures.made

pub returns-in_ok-value-clause-refused : goal.returns-in_ok-value-clause-refused
returns-in_ok-value-clause-refused c =
    IfRefused-weaker c.discard.result _ _
    (λ r h. second_heavy _ _ _ _ _ (sym c.if-is_call.ensures)
    (heavy_behind _ _ _ _ _ _ c.in_ok-value.ensures.made (heavy_as _ _ _ _ (ap (λ (b : Bool). discarded b (pure_of c.in_ok-value.value) (state_of (stock c.save.new.work))) c.may_be_unused.ensures) h)))
    c.discard.ensures.refused
