use Rattle.std.proofs.Common.{◌≡◌, ◌++◌, map, drop}
use Rattle.std.specs.Borrow.{Bor}
use Rattle.c_tree.specs.View.{object_of}
use Rattle.c_tree.specs.declared.object.Object.{Object}
use Rattle.pieces.specs.Resolved.CoreView.{file_object_of}
use Rattle.c_elaborate.specs.Programs.{file_object}
use Rattle.c_elaborate.proofs.file.file_objects.Given as goal

abbrev pub invariant-loop-o : goal.invariant-loop-o
invariant-loop-o l =
    let done = λ (d : Bor Object). file_object (object_of d.now) in
    map file_object_of l.all.items ++ map done (drop l.o-index l.declared) ≡ map done l.declared
