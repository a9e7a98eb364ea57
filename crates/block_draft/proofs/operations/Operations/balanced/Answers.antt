use Rattle.std.proofs.Common.{◌≡◌, ◌∙◌, IfOk, subst, ap, ap₂}
use Rattle.c_value.specs.Values.{promoted}
use Rattle.passes.specs.Lowering.Operations.{Emitted, converted, assigned}
use Rattle.block_draft.specs.Views.{ops_of, given_of, made}
use Rattle.block_draft.proofs.operations.Operations.balanced.Goals as goal

pub returns : goal.returns
returns c =
    let k = c.promoted-middle.ensures ∙ ap promoted c.kind.ensures in
    subst (λ e. IfOk c.convert.result (λ x. made c.convert.new.self x ≡ e))
    (ap₂ (λ (m : Emitted) t. converted m.ops t c.args.to m.operand) (c.in_ok-value.ensures ∙ ap (assigned (ops_of c.args.self.now) (given_of c.args.given)) k) k) c.convert.ensures
