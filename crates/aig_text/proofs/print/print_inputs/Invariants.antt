use Rattle.std.proofs.Common.{◌≡◌, ◌++◌}
use Rattle.aig_text.specs.GraphText.{input_lines}
use Rattle.aig_text.proofs.print.print_inputs.Given as goal

abbrev pub invariant-loop-k : goal.invariant-loop-k
invariant-loop-k l = l.out.items ≡ l.fn.out.items ++ input_lines 1 l.k
