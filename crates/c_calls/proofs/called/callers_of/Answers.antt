use Rattle.std.proofs.Common.{[], ◌∷◌, map}
use Rattle.c_tree.specs.View.{item_of}
use Rattle.c_meaning.specs.Checks.Recursion.{callers}
use Rattle.c_meaning.specs.Checks.Programs.{with_item}
use Rattle.c_calls.proofs.Calling.{grown_thread, callers_more}
use Rattle.c_calls.proofs.called.callers_of.Goals as goal

pub loop-item-preserved : goal.loop-item-preserved
loop-item-preserved c =
    grown_thread (λ ns xs. callers ns (map item_of xs)) (λ ns x. callers ns (item_of x ∷ [])) (λ ns x. with_item (item_of x) ns) (λ ns x xs. callers_more ns (item_of x) (map item_of xs))
    c.args.items.now c.loop-item.item-index c.item-item.result c.loop-item.names _ _ _ _ c.loop-item-test.true c.item-item.is
    c.in_ok-add_caller.ensures.callers c.in_ok-add_caller.ensures.names c.loop-item.invariant
