use Rattle.std.proofs.Common.{◌≡◌, ◌++◌, drop}
use Rattle.std.specs.List.{flat_map}
use Rattle.reg_binding.specs.Liveness.{out_reads}
use Rattle.reg_binding.proofs.reads.push_outs.Given as goal

abbrev pub invariant-loop-out : goal.invariant-loop-out
invariant-loop-out l =
    l.reads.items ++ flat_map out_reads (drop l.out-index l.outs) ≡ l.initial.reads.items ++ flat_map out_reads l.outs
