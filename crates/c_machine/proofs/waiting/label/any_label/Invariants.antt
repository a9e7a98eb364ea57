use Rattle.std.proofs.Common.{◌≡◌, drop}
use Rattle.c_tree.specs.View.{stmts_of}
use Rattle.c_meaning.specs.Statement.{any_label}
use Rattle.c_machine.specs.Waiting.Labels.{wanted_by}
use Rattle.c_machine.proofs.waiting.label.any_label.Given as goal

abbrev pub invariant-loop-stmt : goal.invariant-loop-stmt
invariant-loop-stmt l = any_label (wanted_by l.wanted) (stmts_of (drop l.stmt-index l.body)) ≡ any_label (wanted_by l.wanted) (stmts_of l.body)
