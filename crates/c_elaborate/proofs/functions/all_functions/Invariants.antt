use Rattle.std.proofs.Common.{◌≡◌, ◌++◌, map, drop}
use Rattle.c_tree.specs.View.{item_of}
use Rattle.pieces.specs.Resolved.CoreView.{core_function_of}
use Rattle.c_elaborate.specs.Programs.{functions_elaborated}
use Rattle.c_elaborate.proofs.functions.all_functions.Given as goal

abbrev pub invariant-loop-item : goal.invariant-loop-item
invariant-loop-item l = record {
  functions : map core_function_of l.all.items ++ functions_elaborated l.functions l.initial.scene (map item_of (drop l.item-index l.items)) ≡ functions_elaborated l.functions l.initial.scene (map item_of l.items);
  scene : l.scene ≡ l.initial.scene;
}
