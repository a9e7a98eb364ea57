use Rattle.std.proofs.Common.{◌≡◌, ◌++◌, drop}
use Rattle.module_commands.specs.Lines.{wire_numbers}
use Rattle.module_commands.proofs.lines.push_wires.Given as goal

abbrev pub invariant-loop-wire : goal.invariant-loop-wire
invariant-loop-wire l = l.out.items ++ wire_numbers (drop l.wire-index l.wires) ≡ l.initial.out.items ++ wire_numbers l.wires
