use Rattle.std.proofs.Common.{◌≡◌, ◌+◌, ◌++◌, take}
use Rattle.aig_text.specs.GraphText.{lines_from, gate_line}
use Rattle.aig_text.proofs.print.print_gates.Given as goal

abbrev pub invariant-loop-gate : goal.invariant-loop-gate
invariant-loop-gate l = record {
  number : l.k ≡ l.first + l.gate-index;
  text : l.out.items ≡ l.fn.out.items ++ lines_from gate_line l.first (take l.gate-index l.gates);
}
