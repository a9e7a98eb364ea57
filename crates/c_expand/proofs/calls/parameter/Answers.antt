use Rattle.piece_making.proofs.Exits.{through}
use Rattle.piece_making.proofs.Parts.{made_behind, nothing_made, heavy_at_once, heavy_behind}
use Rattle.pieces.specs.View.{pure_of}
use Rattle.pieces.specs.Resolved.CoreView.{core_object_of}
use Rattle.c_expand.specs.Expressions as e
use Rattle.c_expand.specs.Expressions.{Given}
use Rattle.c_expand.specs.Expansion.{parameter}
use Rattle.c_expand.specs.Callees.{given_of}
use Rattle.std.proofs.Common.{◌≡◌, rules}
use Rattle.c_expand.proofs.Leading.{as_made, as_heavy}
use Rattle.c_expand.proofs.calls.parameter.Goals as goal

pub returns-in_err-set-in-Value-clause-refused : goal.returns-in_err-set-in-Value-clause-refused
returns-in_err-set-in-Value-clause-refused c =
    let is : given_of c.args.given ≡ e.value_given (pure_of c.in-Value.value) = search rules in
    through _ c.in_err-set-in-Value.field-0.0 _ _ c.from_residual-in_err-set-in-Value.ensures.1 (λ y e. e) c.in_err-set-in-Value.ensures.refused
    (λ r h. as_heavy (λ (g : Given) s. parameter (core_object_of c.args.object.now) g s) _ _ _ _ is (heavy_behind _ _ _ _ _ _ c.in_ok-own-in-Value.ensures (heavy_at_once _ _ _ _ h)))

pub returns-in_ok-set-in-Value-clause-made : goal.returns-in_ok-set-in-Value-clause-made
returns-in_ok-set-in-Value-clause-made c =
    let is : given_of c.args.given ≡ e.value_given (pure_of c.in-Value.value) = search rules in
    as_made (λ (g : Given) s. parameter (core_object_of c.args.object.now) g s) _ _ _ _ _ is (made_behind _ _ _ _ _ _ _ c.in_ok-own-in-Value.ensures (made_behind _ _ _ _ _ _ _ c.in_ok-set-in-Value.ensures.made (nothing_made _ _)))
