use Rattle.std.proofs.Common.{sym}
use Rattle.rtl_core.specs.Interface.{done_of}
use Rattle.cosim_levels.proofs.PinsLemmas.Waits.{behind_wait, waits_on, wait_over, wait_vain}
use Rattle.cosim_levels.proofs.pins.drive.first_done.Goals as goal

pub returns-then-was_done-clause-cycle : goal.returns-then-was_done-clause-cycle
returns-then-was_done-clause-cycle c =
    wait_over done_of c.args.driver.now c.loop-k.driver c.wait.new.self c.loop-k.k c.loop-k.invariant c.wait.ensures c.args.cycles c.loop-k-test.true (sym c.if-was_done.ensures)

pub returns-then-was_done-clause-after : goal.returns-then-was_done-clause-after
returns-then-was_done-clause-after c = behind_wait done_of c.args.driver.now c.loop-k.driver c.wait.new.self c.loop-k.k c.loop-k.invariant c.wait.ensures

pub loop-k-preserved : goal.loop-k-preserved
loop-k-preserved c = waits_on done_of c.args.driver.now c.loop-k.driver c.wait.new.self c.loop-k.k c.loop-k.invariant c.wait.ensures (sym c.if-was_done.ensures)

pub returns-clause-cycle : goal.returns-clause-cycle
returns-clause-cycle c = wait_vain done_of c.args.driver.now c.loop-k.driver c.loop-k.k c.args.cycles c.loop-k.invariant c.loop-k-test.false
