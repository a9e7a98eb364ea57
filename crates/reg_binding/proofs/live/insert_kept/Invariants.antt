use Rattle.std.proofs.Common.{take, ◌==◌}
use Rattle.std.specs.List.{list_any}
use Rattle.reg_binding.specs.Sets.{Gains}
use Rattle.reg_binding.proofs.live.insert_kept.Given as goal

abbrev pub invariant-loop-kept : goal.invariant-loop-kept
invariant-loop-kept l = Gains l.initial.set l.set (λ n. list_any (λ k. k.variable.0 == n) (take l.kept-index l.all))
