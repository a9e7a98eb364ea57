use Rattle.std.proofs.Common.{refl, map}
use Rattle.c_tree.specs.View.{object_of}
use Rattle.c_meaning.specs.Checks.Statements.{object_faults, objects_faults, with_object, with_objects}
use Rattle.c_names.proofs.DeclarationsLemmas.Least.{least_thread, state_thread}
use Rattle.c_types.proofs.statements.objects_fault.Goals as goal

pub loop-object-preserved : goal.loop-object-preserved
loop-object-preserved c = record {
  faults = least_thread (λ ns xs. objects_faults c.args.bodies.now c.args.at_file c.args.start ns (map object_of xs)) (λ ns x. object_faults c.args.bodies.now c.args.at_file c.args.start ns (object_of x)) (λ ns x. with_object (object_of x) ns)
      (λ ns x xs. refl) c.args.objects.now c.loop-object.object-index c.object-item.result c.loop-object.names _ _ _ _ _ c.loop-object-test.true c.object-item.is c.in_ok-here.ensures.fault c.in_ok-here.ensures.names c.lesser-worst.ensures c.loop-object.invariant.faults;
  names = state_thread (λ ns xs. with_objects (map object_of xs) ns) (λ ns x. with_object (object_of x) ns) (λ ns x xs. refl)
      c.args.objects.now c.loop-object.object-index c.object-item.result c.loop-object.names _ _ c.loop-object-test.true c.object-item.is c.in_ok-here.ensures.names c.loop-object.invariant.names;
}
