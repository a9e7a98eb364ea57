use Rattle.std.proofs.lemmas.Result.{on_ok_weaker}
use Rattle.circuit_context.proofs.Naming.{name_pushed}
use Rattle.circuit_context.proofs.host.write_always.Goals as goal

pub returns : goal.returns
returns c = λ p names d taken context begun carries.
    on_ok_weaker c.push.result
    (λ is. name_pushed p names d c.args.log.now.pushes.items c.push.new.self.pushes.items c.in_ok-_register._register c.constant.result c.args.value taken begun (c.in_ok-_register.ensures p names context) c.constant.ensures
    carries is) c.push.ensures
