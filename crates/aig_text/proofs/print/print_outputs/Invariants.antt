use Rattle.std.proofs.Common.{◌≡◌, ◌++◌, take}
use Rattle.aig_text.specs.GraphText.{lines_from, output_line}
use Rattle.aig_text.proofs.print.print_outputs.Given as goal

abbrev pub invariant-loop-literal : goal.invariant-loop-literal
invariant-loop-literal l = l.out.items ≡ l.fn.out.items ++ lines_from (λ k. output_line) 0 (take l.literal-index l.literals)
