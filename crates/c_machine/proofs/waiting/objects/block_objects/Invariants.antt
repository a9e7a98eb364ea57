use Rattle.std.proofs.Common.{◌≡◌, ◌++◌, map, drop}
use Rattle.c_tree.specs.View.{stmts_of}
use Rattle.c_meaning.specs.Store.{unwritten, declared_in}
use Rattle.c_machine.proofs.waiting.objects.block_objects.Given as goal

abbrev pub invariant-loop-stmt : goal.invariant-loop-stmt
invariant-loop-stmt l = l.made.items ++ map unwritten (declared_in (stmts_of (drop l.stmt-index l.body))) ≡ map unwritten (declared_in (stmts_of l.body))
