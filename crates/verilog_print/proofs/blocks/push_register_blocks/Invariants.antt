use Rattle.std.proofs.Common.{◌≡◌, ◌++◌, drop}
use Rattle.std.specs.List.{flat_map}
use Rattle.verilog_print.specs.PrintedSyntax.{numbered, register_block}
use Rattle.verilog_print.specs.PrintedText.{always_text}
use Rattle.verilog_print.proofs.blocks.push_register_blocks.Given as goal

abbrev pub invariant-loop-k : goal.invariant-loop-k
invariant-loop-k l = l.out.items ++ flat_map always_text (numbered (register_block l.pins) l.k (drop l.k l.regs)) ≡ l.fn.out.items ++ flat_map always_text (numbered (register_block l.pins) 0 l.regs)
