use Rattle.std.proofs.Common.{get_or, ap, arith}
use Rattle.rtl_core.specs.declared.design.Atom.{Atom}
use Rattle.rtl_core.specs.declared.design.OutPin.{OutPin}
use Rattle.rtl_logic.specs.Pruning.{renamed_output}
use Rattle.rtl_logic.proofs.Keeping.{over_more}
use Rattle.rtl_logic.proofs.prune.renumber_outputs.Goals as goal

pub loop-pin-preserved : goal.loop-pin-preserved
loop-pin-preserved c = λ m n.
    let at_ : OutPin = get_or c.loop-pin.outputs c.loop-pin.pin-index c.pin-item.result in
    over_more (renamed_output m) c.args.outputs.now c.loop-pin.outputs c.loop-pin.pin-index c.pin-item.result (record at_ { from = c.atom-pin.result }) (omega arith) (omega arith) (c.loop-pin.invariant m n)
    (ap (λ (a : Atom). record at_ { from = a }) (c.atom-pin.ensures m n))
