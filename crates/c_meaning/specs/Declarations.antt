-- Declarations of file scope.
use Rattle.std.specs.Prelude.{List, [], map}
use Rattle.std.specs.Borrow.{Bor}
use Rattle.c_tree.specs.Tree as tree
use Rattle.c_tree.specs.Tree.{ObjectTree, ItemTree}
use Rattle.c_tree.specs.View.{object_of}
use Rattle.c_tree.specs.declared.object.Object.{Object as Declared}

abbrev pub objects_of : List (Bor Declared) → List ObjectTree
objects_of declared = map (λ d. object_of d.now) declared

abbrev pub objects_in : ItemTree → List ObjectTree
objects_in (tree.function f) = []
objects_in (tree.objects os) = os
