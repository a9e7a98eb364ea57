use Rattle.std.proofs.Common.{arith}
use Rattle.aig_text.specs.GraphText.{gate_line}
use Rattle.aig_text.proofs.Prints.{more_lines, all_lines}
use Rattle.aig_text.proofs.print.print_gates.Goals as goal

pub loop-gate-preserved : goal.loop-gate-preserved
loop-gate-preserved c =
    let i = c.loop-gate.invariant in
    record { number = omega (arith, i.number); text = more_lines gate_line _ _ _ _ _ _ _ _ (omega arith) i.number i.text c.in_ok-print_gate.ensures }

pub returns : goal.returns
returns c = all_lines gate_line _ _ _ _ _ (omega arith) c.loop-gate.invariant.text
