use Rattle.std.proofs.Common.{◌≡◌, ◌+◌, ◌++◌, drop}
use Rattle.std.specs.List.{flat_map}
use Rattle.reg_binding.specs.Sets.{has}
use Rattle.reg_binding.specs.Lives as spec
use Rattle.reg_binding.proofs.loop_reads.push_outs.Given as goal

abbrev pub invariant-loop-out : goal.invariant-loop-out
invariant-loop-out l =
    l.reads.items ++ flat_map (spec.left_reads (has l.behind) l.region.body.outs.items l.region.ii (l.region.ii + l.region.exit)) (drop l.out-index l.region.body.outs.items) ≡ l.initial.reads.items ++ flat_map (spec.left_reads (has l.behind) l.region.body.outs.items l.region.ii (l.region.ii + l.region.exit)) l.region.body.outs.items
