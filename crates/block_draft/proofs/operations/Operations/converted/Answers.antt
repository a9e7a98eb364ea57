use Rattle.std.proofs.Common.{◌≡◌, IfOk, subst, ap₂}
use Rattle.passes.specs.Lowering.Operations.{Emitted, converted}
use Rattle.block_draft.specs.Views.{made}
use Rattle.block_draft.proofs.operations.Operations.converted.Goals as goal

pub returns : goal.returns
returns c =
    subst (λ e. IfOk c.convert.result (λ x. made c.convert.new.self x ≡ e))
    (ap₂ (λ (m : Emitted) k. converted m.ops k c.args.to m.operand) c.in_ok-value.ensures c.kind.ensures) c.convert.ensures
