use Rattle.std.proofs.Common.{refl}
use Rattle.c_tree.specs.View.{init_of, inits_of}
use Rattle.c_meaning.specs.Checks.Expressions.{init_faults, inits_faults}
use Rattle.c_names.proofs.DeclarationsLemmas.Least.{least_loop}
use Rattle.c_types.proofs.parts.+inits.Goals as goal

pub inits_fault-loop-item-preserved : goal.inits_fault-loop-item-preserved
inits_fault-loop-item-preserved t c = least_loop (λ xs. inits_faults c.args.bodies.now c.args.names.now (inits_of xs)) c.args.items.now c.loop-item.item-index c.item-item.result
    (init_faults c.args.bodies.now c.args.names.now (init_of c.item-item.result))
    _ _ _ _ c.loop-item-test.true c.item-item.is refl c.in_ok-init_fault.ensures c.lesser-worst.ensures c.loop-item.invariant
