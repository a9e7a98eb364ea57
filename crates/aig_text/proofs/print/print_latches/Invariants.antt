use Rattle.std.proofs.Common.{◌≡◌, ◌+◌, ◌++◌, take}
use Rattle.aig_text.specs.GraphText.{lines_from, latch_line}
use Rattle.aig_text.proofs.print.print_latches.Given as goal

abbrev pub invariant-loop-next : goal.invariant-loop-next
invariant-loop-next l = record {
  number : l.k ≡ l.first + l.next-index;
  text : l.out.items ≡ l.fn.out.items ++ lines_from latch_line l.first (take l.next-index l.nexts);
}
