use Rattle.std.proofs.Common.{◌≡◌, ◌++◌, map, drop}
use Rattle.std.specs.List.{flat_map}
use Rattle.rtl_core.specs.Netlist.{memory_of}
use Rattle.verilog_print.specs.PrintedSyntax.{memory_blocks}
use Rattle.verilog_print.specs.PrintedText.{always_text}
use Rattle.verilog_print.proofs.blocks.push_memory_blocks.Given as goal

abbrev pub invariant-loop-k : goal.invariant-loop-k
invariant-loop-k l = l.out.items ++ flat_map always_text (memory_blocks l.pins l.k (map memory_of (drop l.k l.mems))) ≡ l.fn.out.items ++ flat_map always_text (memory_blocks l.pins 0 (map memory_of l.mems))
