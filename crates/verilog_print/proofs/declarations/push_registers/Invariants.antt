use Rattle.std.proofs.Common.{◌≡◌, ◌++◌, drop}
use Rattle.std.specs.Prelude.{codes}
use Rattle.std.specs.List.{flat_map}
use Rattle.verilog_print.specs.PrintedSyntax.{numbered, register_of}
use Rattle.verilog_print.specs.PrintedText.{declared_text}
use Rattle.verilog_print.proofs.declarations.push_registers.Given as goal

abbrev pub invariant-loop-k : goal.invariant-loop-k
invariant-loop-k l = l.out.items ++ flat_map (declared_text (codes "reg")) (numbered register_of l.k (drop l.k l.regs)) ≡ l.fn.out.items ++ flat_map (declared_text (codes "reg")) (numbered register_of 0 l.regs)
