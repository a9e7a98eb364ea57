use Rattle.std.proofs.Common.{◌≡◌, drop, map}
use Rattle.c_tree.specs.View.{object_of}
use Rattle.c_meaning.specs.Checks.Faults.{lesser, least}
use Rattle.c_meaning.specs.Checks.Statements.{objects_faults, with_objects}
use Rattle.c_types.proofs.statements.objects_fault.Given as goal

abbrev pub invariant-loop-object : goal.invariant-loop-object
invariant-loop-object l = record {
  faults : lesser l.worst (least (objects_faults l.bodies l.at_file l.start l.names (map object_of (drop l.object-index l.objects)))) ≡ least (objects_faults l.bodies l.at_file l.start l.initial.names (map object_of l.objects));
  names : with_objects (map object_of (drop l.object-index l.objects)) l.names ≡ with_objects (map object_of l.objects) l.initial.names;
}
