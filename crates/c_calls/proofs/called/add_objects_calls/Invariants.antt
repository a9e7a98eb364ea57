use Rattle.std.proofs.Common.{◌≡◌, ◌++◌, drop, map}
use Rattle.c_tree.specs.View.{object_of}
use Rattle.c_meaning.specs.Checks.Statements.{with_objects}
use Rattle.c_meaning.specs.Checks.Recursion.{objects_calls}
use Rattle.c_calls.proofs.called.add_objects_calls.Given as goal

abbrev pub invariant-loop-object : goal.invariant-loop-object
invariant-loop-object l = record {
  calls : l.calls.items ++ objects_calls l.names (map object_of (drop l.object-index l.objects)) ≡ l.initial.calls.items ++ objects_calls l.initial.names (map object_of l.objects);
  names : with_objects (map object_of (drop l.object-index l.objects)) l.names ≡ with_objects (map object_of l.objects) l.initial.names;
}
