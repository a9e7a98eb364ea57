use Rattle.std.proofs.lemmas.Result.{IfOk-weaker}
use Rattle.circuit_context.specs.Wanted.Roles.{named}
use Rattle.circuit_context.proofs.Telling.{holds_tells}
use Rattle.circuit_context.proofs.Standing.{banked}
use Rattle.circuit_control.proofs.bits.register_bit.Goals as goal

pub returns : goal.returns
returns c = λ p names d context begun one.
    IfOk-weaker c.register.result _ _ (λ a is. holds_tells p names d a (named c.args.role) begun one (banked p names c.args.of.now a (named c.args.role) context is)) c.register.ensures
