use Rattle.std.proofs.Common.{◌≡◌, take, drop}
use Rattle.c_tree.specs.View.{stmts_of}
use Rattle.c_meaning.specs.Store.{declared_in}
use Rattle.c_machine.specs.Waiting.Labels.{wanted_by}
use Rattle.c_machine.specs.Moves.{landing, skipping}
use Rattle.c_machine.proofs.waiting.landing.find_landing.Given as goal

abbrev pub invariant-loop-i : goal.invariant-loop-i
invariant-loop-i l = skipping (declared_in (stmts_of (take l.i l.body))) (landing (wanted_by l.wanted) (stmts_of (drop l.i l.body))) ≡ landing (wanted_by l.wanted) (stmts_of l.body)
