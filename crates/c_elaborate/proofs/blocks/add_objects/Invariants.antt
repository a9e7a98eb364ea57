use Rattle.std.proofs.Common.{◌≡◌, ◌++◌, ◌+◌, map, drop, length}
use Rattle.c_tree.specs.View.{object_of}
use Rattle.c_tree.specs.declared.object.Object.{Object}
use Rattle.pieces.specs.Resolved.CoreView.{core_object_of}
use Rattle.c_elaborate.specs.Objects.{object_elaborated, from}
use Rattle.c_elaborate.proofs.blocks.add_objects.Given as goal

abbrev pub invariant-loop-o : goal.invariant-loop-o
invariant-loop-o l =
    let done = λ (o : Object). object_elaborated (object_of o) in
    record {
      count : length l.all.items ≡ length l.initial.all.items + l.o-index;
      objects : map core_object_of l.all.items ++ map done (drop l.o-index l.objects) ≡ map core_object_of l.initial.all.items ++ map done l.objects;
      numbers : l.numbers.items ++ from (length l.all.items) (length (drop l.o-index l.objects)) ≡ l.initial.numbers.items ++ from (length l.initial.all.items) (length l.objects);
    }
