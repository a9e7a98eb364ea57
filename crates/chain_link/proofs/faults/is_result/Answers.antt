use Rattle.std.proofs.Common.{sym, subst, ◌≡◌, ◌↔◌}
use Rattle.std.specs.Prelude.{IsTrue, codes}
use Rattle.rtl_core.specs.declared.design.OutPin.{OutPin}
use Rattle.chain_link.proofs.StagePins.{result_named, no_result}
use Rattle.chain_link.proofs.faults.is_result.Goals as goal

pub returns-then-k-pins : goal.returns-then-k-pins
returns-then-k-pins c =
    result_named c.args.pins.now c.args.k c.index-pins-k.result (codes "ret") c.is_same.result c.if-k-pins.true c.index-pins-k.is
    (subst (λ (x : OutPin). IsTrue c.is_same.result ↔ (x.name ≡ codes "ret")) (sym c.index-pins-k.is) c.is_same.ensures)

pub returns-else-k-pins : goal.returns-else-k-pins
returns-else-k-pins c = no_result c.args.pins.now c.args.k _ c.if-k-pins.false
