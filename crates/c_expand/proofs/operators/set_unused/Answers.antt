use Rattle.std.proofs.Common.{ap, ◌∙◌}
use Rattle.c_token.specs.declared.ctype.CType.{CType}
use Rattle.pieces.specs.Kind.{kind}
use Rattle.pieces.specs.declared.pure_expr.Pure.{Pure}
use Rattle.pieces.specs.View.{pure_of}
use Rattle.piece_making.specs.Making.{set_own}
use Rattle.piece_making.specs.Stocks.{stock, state_of}
use Rattle.piece_making.proofs.Exits.{through}
use Rattle.piece_making.proofs.Parts.{made_behind, nothing_made, heavy_at_once}
use Rattle.c_expand.proofs.Leading.{made_as, heavy_as}
use Rattle.c_expand.proofs.operators.set_unused.Goals as goal

pub returns-in_err-set_own-clause-refused : goal.returns-in_err-set_own-clause-refused
returns-in_err-set_own-clause-refused c =
    let same =
    ap (λ (k : CType). set_own k (pure_of c.into_inner-value.result) (state_of (stock c.args.work.now))) c.kind_of-kind.ensures
    ∙ ap (λ (x : Pure). set_own (kind (pure_of x)) (pure_of x) (state_of (stock c.args.work.now))) c.into_inner-value.ensures in
    through _ c.in_err-set_own.field-0.0 _ _ c.from_residual.ensures.1 (λ y e. e) c.in_err-set_own.ensures.refused (λ r h. heavy_at_once _ _ _ _ (heavy_as _ _ _ _ same h))

pub returns-clause-made : goal.returns-clause-made
returns-clause-made c =
    let same =
    ap (λ (k : CType). set_own k (pure_of c.into_inner-value.result) (state_of (stock c.args.work.now))) c.kind_of-kind.ensures
    ∙ ap (λ (x : Pure). set_own (kind (pure_of x)) (pure_of x) (state_of (stock c.args.work.now))) c.into_inner-value.ensures in
    made_behind _ _ _ _ _ _ _ (made_as _ _ _ _ _ same c.in_ok-set_own.ensures.made) (nothing_made _ _)
