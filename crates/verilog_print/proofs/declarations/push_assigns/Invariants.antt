use Rattle.std.proofs.Common.{◌≡◌, ◌++◌, map, drop}
use Rattle.std.specs.List.{flat_map}
use Rattle.verilog_print.specs.PrintedSyntax.{assign_of}
use Rattle.verilog_print.specs.PrintedText.{assign_text}
use Rattle.verilog_print.proofs.declarations.push_assigns.Given as goal

abbrev pub invariant-loop-output : goal.invariant-loop-output
invariant-loop-output l = l.out.items ++ flat_map assign_text (map (assign_of l.pins) (drop l.output-index l.outputs)) ≡ l.fn.out.items ++ flat_map assign_text (map (assign_of l.pins) l.outputs)
