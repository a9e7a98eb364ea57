use Rattle.std.proofs.Common.{◌≡◌, ◌++◌, drop}
use Rattle.c_meaning.specs.Run.{file_store}
use Rattle.c_meaning.specs.Declarations.{objects_of}
use Rattle.c_machine.proofs.state.file_scope.file_store.Given as goal

abbrev pub invariant-loop-d : goal.invariant-loop-d
invariant-loop-d l =
    l.objects.items ++ file_store (objects_of (drop l.d-index l.declared)) (record { scalars = l.scalars; arrays = l.arrays }) ≡ file_store (objects_of l.declared) l.contents
