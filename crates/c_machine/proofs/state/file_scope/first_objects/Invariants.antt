use Rattle.std.proofs.Common.{◌≡◌, map, take}
use Rattle.c_meaning.specs.Run.{first_object}
use Rattle.c_meaning.specs.Declarations.{objects_of}
use Rattle.c_machine.proofs.state.file_scope.first_objects.Given as goal

abbrev pub invariant-loop-d : goal.invariant-loop-d
invariant-loop-d l =
    l.objects.items ≡ map first_object (objects_of (take l.d-index l.declared))
