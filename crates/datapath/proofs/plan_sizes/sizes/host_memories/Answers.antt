use Rattle.std.proofs.Common.{◌≤◌, List, length, ap, ◌∙◌, subst}
use Rattle.std.specs.Prelude.{filter}
use Rattle.std.proofs.lemmas.List.{take_all}
use Rattle.ir_core.specs.declared.cfg.Memory.{Memory}
use Rattle.datapath.proofs.Programs.{hosts}
use Rattle.datapath.proofs.plan_sizes.sizes.host_memories.Goals as goal

pub returns : goal.returns
returns c = λ p e.
    let memories = c.args.cfg.now.frame.memories.items in
    let all : length memories ≤ c.loop-memory.memory-index = subst (λ (ms : List Memory). length ms ≤ c.loop-memory.memory-index) c.deref-memory-items.ensures.value c.loop-memory-test.false in
    c.loop-memory.invariant.0 ∙ ap (λ (ms : List Memory). length (filter (λ (m : Memory). m.host) ms)) (take_all c.loop-memory.memory-index memories all) ∙ hosts p memories e
