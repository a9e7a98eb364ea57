use Rattle.std.proofs.Common.{◌≡◌, ◌++◌, map, drop}
use Rattle.std.specs.Prelude.{codes}
use Rattle.std.specs.List.{flat_map}
use Rattle.verilog_print.specs.PrintedSyntax.{input_of}
use Rattle.verilog_print.specs.PrintedText.{declared_text}
use Rattle.verilog_print.proofs.declarations.push_inputs.Given as goal

abbrev pub invariant-loop-pin : goal.invariant-loop-pin
invariant-loop-pin l = l.out.items ++ flat_map (declared_text (codes "input")) (map input_of (drop l.pin-index l.pins)) ≡ l.fn.out.items ++ flat_map (declared_text (codes "input")) (map input_of l.pins)
