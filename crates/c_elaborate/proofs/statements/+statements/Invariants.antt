use Rattle.std.proofs.Common.{◌≡◌, ◌++◌, map, drop, length}
use Rattle.c_tree.specs.View.{stmts_of}
use Rattle.c_meaning.specs.Store.{declared_in}
use Rattle.pieces.specs.Resolved.CoreView.{core_object_of}
use Rattle.c_elaborate.specs.Objects.{object_elaborated, objects_within}
use Rattle.c_elaborate.specs.Scenes.{all_declared}
use Rattle.c_elaborate.specs.Statements.{statements}
use Rattle.c_elaborate.proofs.Bodies.{IsDone}
use Rattle.c_elaborate.proofs.statements.+statements.Given as goal

abbrev pub invariant-all-loop-stmt : goal.invariant-all-loop-stmt
invariant-all-loop-stmt l =
    let whole = stmts_of l.body in
    IsDone l.functions (stmts_of (drop l.stmt-index l.body)) l.list.items l.scene l.objects.items
    (statements l.functions l.initial.scene (length l.initial.objects.items) whole) (all_declared l.initial.scene (declared_in whole)) (map core_object_of l.initial.objects.items ++ map object_elaborated (objects_within whole))
