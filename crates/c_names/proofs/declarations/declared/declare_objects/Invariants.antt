use Rattle.std.proofs.Common.{◌≡◌, drop, map}
use Rattle.c_tree.specs.View.{object_of}
use Rattle.c_meaning.specs.Checks.Statements.{with_objects}
use Rattle.c_names.proofs.declarations.declared.declare_objects.Given as goal

abbrev pub invariant-loop-object : goal.invariant-loop-object
invariant-loop-object l = with_objects (map object_of (drop l.object-index l.objects)) l.names ≡ with_objects (map object_of l.objects) l.initial.names
