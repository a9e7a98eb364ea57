use Rattle.std.proofs.lemmas.Result.{on_ok_weaker}
use Rattle.circuit_control.proofs.Telling.{register_pushed}
use Rattle.circuit_control.proofs.bits.write.Goals as goal

pub returns : goal.returns
returns c = λ p names d wanted value context begun tells carries.
    on_ok_weaker c.push.result
    (λ is. register_pushed p names d c.args.of.now c.args.log.now.pushes.items c.push.new.self.pushes.items c.args.role c.in_ok-_register._register c.args.choice.when c.args.choice.value wanted value context begun c.in_ok-_register.ensures tells carries
    is) c.push.ensures
