use Rattle.std.proofs.Common.{sym, ◌∙◌}
use Rattle.flat_programs.proofs.MemoryLemmas.Addressing.{within_past, within_more}
use Rattle.flat_programs.proofs.memory.bank.are_within.Goals as goal
use Rattle.flat_programs.proofs.memory.bank.are_within.Goals.{else-index-subscripts-via-then-index-subscripts+else-subscripts-index, else-index-subscripts-via-else-index-subscripts}

pub loop-index-preserved : goal.loop-index-preserved
loop-index-preserved c =
    elim c.else-index-subscripts.branch [
      | else-index-subscripts-via-then-index-subscripts+else-subscripts-index w ↦
          sym (within_more c.args.lengths.now c.args.subscripts.now c.loop-index.index c.loop-index-test.true w.if-index-subscripts.true w.if-subscripts-index.false) ∙ c.loop-index.invariant
      | else-index-subscripts-via-else-index-subscripts w ↦
          sym (within_past c.args.lengths.now c.args.subscripts.now c.loop-index.index w.if-index-subscripts.false) ∙ c.loop-index.invariant
    ]
