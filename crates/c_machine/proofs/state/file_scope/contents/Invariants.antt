use Rattle.std.proofs.Common.{◌≡◌, drop}
use Rattle.c_meaning.specs.Run.{contents_of}
use Rattle.c_meaning.specs.Declarations.{objects_of}
use Rattle.c_machine.specs.State.Contents.{joined}
use Rattle.c_machine.proofs.state.file_scope.contents.Given as goal

abbrev pub invariant-loop-i : goal.invariant-loop-i
invariant-loop-i l =
    joined l.all (contents_of (objects_of (drop l.i l.declared)) (drop l.i l.objects)) ≡ contents_of (objects_of l.declared) l.objects
