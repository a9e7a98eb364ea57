use Rattle.std.proofs.Common.{◌≡◌, ◌++◌, drop}
use Rattle.std.specs.List.{flat_map}
use Rattle.verilog_print.specs.PrintedSyntax.{numbered, wire_of}
use Rattle.verilog_print.specs.PrintedText.{wire_text}
use Rattle.verilog_print.proofs.declarations.push_wires.Given as goal

abbrev pub invariant-loop-k : goal.invariant-loop-k
invariant-loop-k l = l.out.items ++ flat_map wire_text (numbered (wire_of l.pins) l.k (drop l.k l.wires)) ≡ l.fn.out.items ++ flat_map wire_text (numbered (wire_of l.pins) 0 l.wires)
