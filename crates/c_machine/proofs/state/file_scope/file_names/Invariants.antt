use Rattle.std.proofs.Common.{◌≡◌, ◌++◌, drop}
use Rattle.c_meaning.specs.Run.{bindings_from}
use Rattle.c_meaning.specs.Declarations.{objects_of}
use Rattle.c_machine.proofs.state.file_scope.file_names.Given as goal

abbrev pub invariant-loop-i : goal.invariant-loop-i
invariant-loop-i l =
    l.names.items ++ bindings_from l.i (objects_of (drop l.i l.declared)) ≡ bindings_from 0 (objects_of l.declared)
