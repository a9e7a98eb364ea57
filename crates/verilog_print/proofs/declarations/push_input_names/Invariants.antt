use Rattle.std.proofs.Common.{◌≡◌, ◌++◌, map, drop}
use Rattle.std.specs.List.{flat_map}
use Rattle.rtl_core.specs.declared.design.Pin.{Pin}
use Rattle.verilog_print.specs.PrintedText.{header_text}
use Rattle.verilog_print.proofs.declarations.push_input_names.Given as goal

abbrev pub invariant-loop-pin : goal.invariant-loop-pin
invariant-loop-pin l = l.out.items ++ flat_map header_text (map (λ (p : Pin). p.name) (drop l.pin-index l.pins)) ≡ l.fn.out.items ++ flat_map header_text (map (λ (p : Pin). p.name) l.pins)
