use Rattle.std.proofs.lemmas.Result.{IfOk-weaker}
use Rattle.circuit_context.specs.Wanted.Roles.{named}
use Rattle.circuit_control.proofs.Telling.{bank_carries}
use Rattle.circuit_control.proofs.bits.register.Goals as goal

pub returns : goal.returns
returns c = λ p names d context begun. IfOk-weaker c.register.result _ _ (λ a is. bank_carries p names d c.args.of.now a (named c.args.role) context begun is) c.register.ensures
