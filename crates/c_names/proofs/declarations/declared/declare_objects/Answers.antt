use Rattle.std.proofs.Common.{refl, map}
use Rattle.c_tree.specs.View.{object_of}
use Rattle.c_meaning.specs.Checks.Statements.{with_object, with_objects}
use Rattle.c_names.proofs.DeclarationsLemmas.Least.{state_thread}
use Rattle.c_names.proofs.declarations.declared.declare_objects.Goals as goal

pub loop-object-preserved : goal.loop-object-preserved
loop-object-preserved c =
    state_thread (λ ns xs. with_objects (map object_of xs) ns) (λ ns x. with_object (object_of x) ns) (λ ns x xs. refl)
    c.args.objects.now c.loop-object.object-index c.object-item.result c.loop-object.names _ _ c.loop-object-test.true c.object-item.is
    c.in_ok-declare_object.ensures c.loop-object.invariant
