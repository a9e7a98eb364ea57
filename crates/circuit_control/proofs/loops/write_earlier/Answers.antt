use Rattle.std.proofs.Common.{◌≡◌, ◌-◌, ap, arith}
use Rattle.datapath.specs.Cycles.{Cycle, Gate}
use Rattle.circuit_context.proofs.WantedLemmas.Joining.{logs_none, logs_then}
use Rattle.circuit_control.specs.Gathered.{moved_entries}
use Rattle.circuit_control.proofs.Pieces.{logs_as, moved_more}
use Rattle.circuit_control.proofs.loops.write_earlier.Goals as goal

pub loop-before-init : goal.loop-before-init
loop-before-init c = λ p names d moves context begun tells. logs_none p names d c.args.log.now.pushes.items begun

pub loop-before-preserved : goal.loop-before-preserved
loop-before-preserved c = λ p names d moves context begun tells.
    let k = c.loop-before.before in
    let h = c.loop-before.invariant p names d moves context begun tells in
    let one = c.in_ok-write.ensures p names d moves (λ (x : Cycle). x.regs (Gate k)) context begun tells (c.in_ok-value.ensures p names d context begun) in
    logs_as p names d d c.args.log.now.pushes.items c.write.new.log.pushes.items _ _ (moved_more moves k)
    (logs_then p names d d d c.args.log.now.pushes.items c.loop-before.log.pushes.items c.write.new.log.pushes.items (moved_entries moves k) _ h one)

pub returns : goal.returns
returns c = λ p names d moves context begun tells.
    let last : c.loop-before.before ≡ c.args.of.now.bank.gates - 1 = omega arith in
    logs_as p names d d c.args.log.now.pushes.items c.loop-before.log.pushes.items _ _ (ap (moved_entries moves) last) (c.loop-before.invariant p names d moves context begun tells)
