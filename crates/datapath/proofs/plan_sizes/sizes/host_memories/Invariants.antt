use Rattle.std.proofs.Common.{◌≡◌, ◌≤◌, take, length}
use Rattle.std.specs.Prelude.{filter}
use Rattle.ir_core.specs.declared.cfg.Memory.{Memory}
use Rattle.datapath.proofs.plan_sizes.sizes.host_memories.Given as goal

abbrev pub invariant-loop-memory : goal.invariant-loop-memory
invariant-loop-memory l = (l.count ≡ length (filter (λ (m : Memory). m.host) (take l.memory-index l.cfg.frame.memories.items))) × (l.count ≤ l.memory-index)
