use Rattle.std.proofs.Common.{◌≡◌, ◌++◌, drop}
use Rattle.reg_binding.specs.Lives.{block_life, lives_from}
use Rattle.reg_binding.proofs.block_reads.block_lives.Given as goal

abbrev pub invariant-loop-number : goal.invariant-loop-number
invariant-loop-number l =
    l.lives.items ++ lives_from block_life l.reads.items l.number (drop l.number l.block.body.ops.items) ≡ lives_from block_life l.reads.items 0 l.block.body.ops.items
