use Rattle.std.proofs.Common.{◌≡◌, ◌++◌, map, drop}
use Rattle.std.specs.List.{flat_map}
use Rattle.rtl_core.specs.Netlist.{memory_of}
use Rattle.verilog_print.specs.PrintedSyntax.{numbered, memory_at}
use Rattle.verilog_print.specs.PrintedText.{memory_text}
use Rattle.verilog_print.proofs.declarations.push_memories.Given as goal

abbrev pub invariant-loop-k : goal.invariant-loop-k
invariant-loop-k l = l.out.items ++ flat_map memory_text (numbered memory_at l.k (map memory_of (drop l.k l.mems))) ≡ l.fn.out.items ++ flat_map memory_text (numbered memory_at 0 (map memory_of l.mems))
