use Rattle.std.proofs.Common.{refl, map}
use Rattle.c_tree.specs.View.{object_of}
use Rattle.c_meaning.specs.Checks.Statements.{with_object, with_objects}
use Rattle.c_meaning.specs.Checks.Recursion.{object_calls, objects_calls}
use Rattle.c_names.proofs.DeclarationsLemmas.Least.{state_thread}
use Rattle.c_calls.proofs.Calling.{grown_thread}
use Rattle.c_calls.proofs.called.add_objects_calls.Goals as goal

pub loop-object-preserved : goal.loop-object-preserved
loop-object-preserved c = record {
  calls = grown_thread (λ ns xs. objects_calls ns (map object_of xs)) (λ ns x. object_calls ns (object_of x)) (λ ns x. with_object (object_of x) ns) (λ ns x xs. refl)
      c.args.objects.now c.loop-object.object-index c.object-item.result c.loop-object.names _ _ _ _ c.loop-object-test.true c.object-item.is
      c.in_ok-add_object_calls.ensures.calls c.in_ok-add_object_calls.ensures.names c.loop-object.invariant.calls;
  names = state_thread (λ ns xs. with_objects (map object_of xs) ns) (λ ns x. with_object (object_of x) ns) (λ ns x xs. refl)
      c.args.objects.now c.loop-object.object-index c.object-item.result c.loop-object.names _ _ c.loop-object-test.true c.object-item.is
      c.in_ok-add_object_calls.ensures.names c.loop-object.invariant.names;
}
