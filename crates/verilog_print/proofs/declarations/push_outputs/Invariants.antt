use Rattle.std.proofs.Common.{◌≡◌, ◌++◌, map, drop}
use Rattle.std.specs.Prelude.{codes}
use Rattle.std.specs.List.{flat_map}
use Rattle.verilog_print.specs.PrintedSyntax.{output_of}
use Rattle.verilog_print.specs.PrintedText.{declared_text}
use Rattle.verilog_print.proofs.declarations.push_outputs.Given as goal

abbrev pub invariant-loop-output : goal.invariant-loop-output
invariant-loop-output l = l.out.items ++ flat_map (declared_text (codes "output")) (map output_of (drop l.output-index l.outputs)) ≡ l.fn.out.items ++ flat_map (declared_text (codes "output")) (map output_of l.outputs)
