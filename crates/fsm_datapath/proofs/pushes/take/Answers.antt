use Rattle.std.proofs.lemmas.Result.{on_ok_weaker}
use Rattle.rtl_logic.specs.Making.{circuit}
use Rattle.fsm_datapath.proofs.Pushing.{register_pushed}
use Rattle.fsm_datapath.proofs.pushes.take.Goals as goal

pub returns : goal.returns
returns c = λ p names wanted value h begun tells carries.
    on_ok_weaker c.push.result
    (λ pushed. register_pushed p names (circuit c.args.logic.now) c.args.of.now c.args.log.now.pushes.items c.push.new.self.pushes.items c.args.role c.in_ok-register.register c.args.choice.when
    c.args.choice.value c.in_ok-value.value c.width.result wanted value h begun c.in_ok-register.ensures c.width.ensures c.in_ok-value.ensures.same c.in_ok-value.ensures.fits tells carries pushed)
    c.push.ensures
