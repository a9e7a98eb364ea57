use Rattle.std.proofs.Common.{◌≡◌, ◌^◌, ◌-◌, take, length}
use Rattle.std.specs.Prelude.{fold, max, min}
use Rattle.ir_core.specs.declared.cfg.Memory.{Memory}
use Rattle.datapath.specs.Plans.{array_of, cycles_for}
use Rattle.datapath.proofs.plan_sizes.sizes.initial_cycles.Given as goal

abbrev pub invariant-loop-memory : goal.invariant-loop-memory
invariant-loop-memory l =
    l.cycles ≡ min (fold (λ n (m : Memory). max n (cycles_for (array_of m))) (min 1 (length l.cfg.frame.kept.items)) (take l.memory-index l.cfg.frame.memories.items)) (2 ^ 64 - 1)
