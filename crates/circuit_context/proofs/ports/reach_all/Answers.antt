use Rattle.std.proofs.Common.{subst, arith}
use Rattle.std.proofs.lemmas.List.{take_all}
use Rattle.circuit_context.specs.Counting.{reached_in, Reaches}
use Rattle.circuit_context.proofs.Reaching.{reaches_more}
use Rattle.circuit_context.proofs.ports.reach_all.Goals as goal

pub loop-number-preserved : goal.loop-number-preserved
loop-number-preserved c =
    reaches_more c.args.counts.now.items c.loop-number.counts.items c.reach.new.counts.items c.args.ops.now c.args.row.now c.loop-number.number c.index-ops-number.result (omega arith) c.index-ops-number.is
    c.loop-number.invariant c.in_ok-reach.ensures

pub returns : goal.returns
returns c =
    subst (λ l. Reaches c.args.counts.now.items c.loop-number.counts.items (λ a n. reached_in a n l c.args.row.now)) (take_all c.loop-number.number c.args.ops.now (omega arith)) c.loop-number.invariant
