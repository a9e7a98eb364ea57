use Rattle.std.proofs.Common.{◌≡◌, ◌++◌, map, take}
use Rattle.c_tree.specs.View.{object_of}
use Rattle.c_meaning.specs.Declarations.{objects_of}
use Rattle.c_meaning.proofs.file_scope.add_declarations.Given as goal

abbrev pub invariant-loop-o : goal.invariant-loop-o
invariant-loop-o l =
    objects_of l.all.items ≡ objects_of l.initial.all.items ++ map object_of (take l.o-index l.objects)
