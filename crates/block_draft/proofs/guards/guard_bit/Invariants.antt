use Rattle.std.proofs.Common.{◌≡◌}
use Rattle.passes.specs.Lowering.Guards.{guarded}
use Rattle.block_draft.specs.Views.{ops_of, guards_of, guarded_of}
use Rattle.block_draft.proofs.guards.guard_bit.Given as goal

abbrev pub invariant-loop-guard : goal.invariant-loop-guard
invariant-loop-guard l = guarded_of l.ops l.guards.items l.outer ≡ guarded (ops_of l.initial.ops) (guards_of l.yielded)
