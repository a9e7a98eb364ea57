use Rattle.std.proofs.Common.{◌≡◌, ◌++◌, drop}
use Rattle.std.specs.List.{flat_map}
use Rattle.reg_binding.specs.Sets.{has}
use Rattle.reg_binding.specs.Lives as spec
use Rattle.reg_binding.proofs.block_reads.push_outs.Given as goal

abbrev pub invariant-loop-out : goal.invariant-loop-out
invariant-loop-out l =
    l.reads.items ++ flat_map (spec.out_reads (has l.behind) l.time) (drop l.out-index l.outs) ≡ l.initial.reads.items ++ flat_map (spec.out_reads (has l.behind) l.time) l.outs
