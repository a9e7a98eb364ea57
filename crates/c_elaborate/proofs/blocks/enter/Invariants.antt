use Rattle.std.proofs.Common.{◌≡◌, ◌++◌, map, drop, length}
use Rattle.c_tree.specs.View.{stmts_of}
use Rattle.c_meaning.specs.Store.{declared_in}
use Rattle.pieces.specs.Resolved.CoreView.{core_object_of}
use Rattle.c_elaborate.specs.Objects.{object_elaborated, from}
use Rattle.c_elaborate.proofs.blocks.enter.Given as goal

abbrev pub invariant-loop-stmt : goal.invariant-loop-stmt
invariant-loop-stmt l = record {
  objects : map core_object_of l.all.items ++ map object_elaborated (declared_in (stmts_of (drop l.stmt-index l.body))) ≡ map core_object_of l.initial.all.items ++ map object_elaborated (declared_in (stmts_of l.body));
  numbers : l.numbers.items ++ from (length l.all.items) (length (declared_in (stmts_of (drop l.stmt-index l.body)))) ≡ from (length l.initial.all.items) (length (declared_in (stmts_of l.body)));
}
