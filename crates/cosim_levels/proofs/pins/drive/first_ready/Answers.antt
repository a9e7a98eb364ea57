use Rattle.std.proofs.Common.{sym}
use Rattle.rtl_core.specs.Interface.{ready_of}
use Rattle.cosim_levels.proofs.PinsLemmas.Waits.{behind_wait, waits_on, wait_over, wait_vain}
use Rattle.cosim_levels.proofs.pins.drive.first_ready.Goals as goal

pub returns-then-was_ready-clause-cycle : goal.returns-then-was_ready-clause-cycle
returns-then-was_ready-clause-cycle c =
    wait_over ready_of c.args.driver.now c.loop-k.driver c.wait.new.self c.loop-k.k c.loop-k.invariant c.wait.ensures c.args.cycles c.loop-k-test.true (sym c.if-was_ready.ensures)

pub returns-then-was_ready-clause-after : goal.returns-then-was_ready-clause-after
returns-then-was_ready-clause-after c = behind_wait ready_of c.args.driver.now c.loop-k.driver c.wait.new.self c.loop-k.k c.loop-k.invariant c.wait.ensures

pub loop-k-preserved : goal.loop-k-preserved
loop-k-preserved c = waits_on ready_of c.args.driver.now c.loop-k.driver c.wait.new.self c.loop-k.k c.loop-k.invariant c.wait.ensures (sym c.if-was_ready.ensures)

pub returns-clause-cycle : goal.returns-clause-cycle
returns-clause-cycle c = wait_vain ready_of c.args.driver.now c.loop-k.driver c.loop-k.k c.args.cycles c.loop-k.invariant c.loop-k-test.false
