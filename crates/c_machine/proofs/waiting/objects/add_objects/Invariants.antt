use Rattle.std.proofs.Common.{◌≡◌, ◌++◌, map, drop}
use Rattle.c_tree.specs.View.{object_of}
use Rattle.c_meaning.specs.Store.{unwritten}
use Rattle.c_machine.proofs.waiting.objects.add_objects.Given as goal

abbrev pub invariant-loop-d : goal.invariant-loop-d
invariant-loop-d l = l.made.items ++ map unwritten (map object_of (drop l.d-index l.declared)) ≡ l.initial.made.items ++ map unwritten (map object_of l.declared)
