use Rattle.std.proofs.Common.{◌≡◌, ◌++◌, drop}
use Rattle.reg_binding.specs.Lives.{lives_from, chain_lives, period}
use Rattle.reg_binding.proofs.loop_reads.loop_lives.Given as goal

abbrev pub invariant-loop-number : goal.invariant-loop-number
invariant-loop-number l =
    l.lives.items ++ lives_from (chain_lives l.region.body.outs.items (period l.region)) l.reads.items l.number (drop l.number l.region.body.ops.items)
    ≡ lives_from (chain_lives l.region.body.outs.items (period l.region)) l.reads.items 0 l.region.body.ops.items
