use Rattle.std.proofs.Common.{◌≡◌, ◌++◌, map, drop}
use Rattle.std.specs.List.{flat_map}
use Rattle.rtl_core.specs.declared.design.OutPin.{OutPin}
use Rattle.verilog_print.specs.PrintedText.{header_text}
use Rattle.verilog_print.proofs.declarations.push_output_names.Given as goal

abbrev pub invariant-loop-output : goal.invariant-loop-output
invariant-loop-output l = l.out.items ++ flat_map header_text (map (λ (o : OutPin). o.name) (drop l.output-index l.outputs)) ≡ l.fn.out.items ++ flat_map header_text (map (λ (o : OutPin). o.name) l.outputs)
