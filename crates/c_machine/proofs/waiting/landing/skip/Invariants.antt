use Rattle.std.proofs.Common.{◌≡◌, drop}
use Rattle.c_tree.specs.View.{stmts_of}
use Rattle.c_meaning.specs.Store.{all_declared, declared_in}
use Rattle.c_machine.proofs.waiting.landing.skip.Given as goal

abbrev pub invariant-loop-stmt : goal.invariant-loop-stmt
invariant-loop-stmt l =
    (l.scopes ≡ record l.initial.scopes { environment = l.scopes.environment })
    × (all_declared l.scopes.environment (declared_in (stmts_of (drop l.stmt-index l.skipped))) ≡ all_declared l.initial.scopes.environment (declared_in (stmts_of l.skipped)))
