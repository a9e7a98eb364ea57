use Rattle.std.proofs.Common.{◌≡◌, ◌++◌, map, drop}
use Rattle.std.specs.List.{flat_map}
use Rattle.verilog_print.specs.PrintedSyntax.{write_of}
use Rattle.verilog_print.specs.PrintedText.{write_text}
use Rattle.verilog_print.proofs.blocks.push_writes.Given as goal

abbrev pub invariant-loop-port : goal.invariant-loop-port
invariant-loop-port l = l.out.items ++ flat_map write_text (map (write_of l.pins l.fn.k) (drop l.port-index l.ports)) ≡ l.fn.out.items ++ flat_map write_text (map (write_of l.pins l.fn.k) l.ports)
