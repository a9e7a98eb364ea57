use Rattle.std.proofs.Common.{arith}
use Rattle.aig_text.specs.GraphText.{latch_line}
use Rattle.aig_text.proofs.Prints.{more_lines, all_lines}
use Rattle.aig_text.proofs.print.print_latches.Goals as goal

pub loop-next-preserved : goal.loop-next-preserved
loop-next-preserved c =
    let i = c.loop-next.invariant in
    record { number = omega (arith, i.number); text = more_lines latch_line _ _ _ _ _ _ _ _ (omega arith) i.number i.text c.in_ok-print_latch.ensures }

pub returns : goal.returns
returns c = all_lines latch_line _ _ _ _ _ (omega arith) c.loop-next.invariant.text
