use Rattle.std.proofs.Common.{◌≡◌, map, drop}
use Rattle.c_tree.specs.View.{object_of}
use Rattle.c_meaning.specs.Store.{all_declared}
use Rattle.c_machine.proofs.waiting.landing.declare_all.Given as goal

abbrev pub invariant-loop-d : goal.invariant-loop-d
invariant-loop-d l =
    (l.scopes ≡ record l.initial.scopes { environment = l.scopes.environment })
    × (all_declared l.scopes.environment (map object_of (drop l.d-index l.declared)) ≡ all_declared l.initial.scopes.environment (map object_of l.declared))
