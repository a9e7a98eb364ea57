use Rattle.std.proofs.Common.{◌≡◌, ◌++◌, drop, map}
use Rattle.c_tree.specs.View.{object_of}
use Rattle.c_tree.specs.StatementRows as rows
use Rattle.c_tree.proofs.ListRows.{rest_listed}
use Rattle.c_tree.proofs.print.object.push_objects.Given as goal

abbrev pub invariant-loop-object : goal.invariant-loop-object
invariant-loop-object l =
    l.row.items ++ rest_listed rows.object_row l.first (map object_of (drop l.object-index l.objects)) ≡ l.fn.row.items ++ rows.listed rows.object_row (map object_of l.objects)
