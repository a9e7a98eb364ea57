use Rattle.std.proofs.Common.{◌∙◌, sym, subst}
use Rattle.std.specs.Prelude.{codes}
use Rattle.std.specs.List.{flat_map}
use Rattle.rtl_core.specs.Netlist.{netlist_of}
use Rattle.rtl_core.specs.ClockStep.{widths}
use Rattle.rtl_core.specs.Valid.{pin_names}
use Rattle.rtl_core.specs.ModuleText.{IsModuleText}
use Rattle.verilog_print.specs.PrintedSyntax.{syntax_of}
use Rattle.verilog_print.specs.PrintedText.{header_text, declared_text, memory_text, wire_text, assign_text, always_text}
use Rattle.verilog_print.proofs.PrinterTexts.{five_parts, shallow, counted}
use Rattle.verilog_print.proofs.Theorem.{printed_is_module_text}
use Rattle.verilog_print.proofs.printer.print.Goals as goal

pub push_values-requires : goal.push_values-requires
push_values-requires c = let d = c.args.design.now in shallow (widths (netlist_of d)) d.mems.items c.requires.valid.mems

pub returns-clause-text : goal.returns-clause-text
returns-clause-text c =
    let d = netlist_of c.args.design.now in
    let s = syntax_of d in
    c.new.ensures
    ∙ five_parts (codes "module ") d.name (codes " (clk") (flat_map header_text (pin_names d)) (codes ");\ninput clk;\n") (flat_map (declared_text (codes "input")) s.inputs) (flat_map (declared_text (codes "output")) s.outputs)
    (flat_map (declared_text (codes "reg")) s.regs) (flat_map memory_text s.mems) (flat_map wire_text s.wires) (flat_map assign_text s.assigns) (flat_map always_text s.blocks) (codes "endmodule\n")
    c.new-out.result.items c.push_header.new.out.items c.push_pins.new.out.items c.push_values.new.out.items c.push_actions.new.out.items c.extend_from_slice.new.self.items
    c.new-out.ensures.items c.in_ok-push_header.ensures c.in_ok-push_pins.ensures c.in_ok-push_values.ensures c.in_ok-push_actions.ensures c.in_ok-extend_from_slice.ensures.items

pub returns-clause-circuit : goal.returns-clause-circuit
returns-clause-circuit c =
    let d = netlist_of c.args.design.now in
    subst (λ text. IsModuleText text d) (sym (returns-clause-text c)) (printed_is_module_text d c.requires.valid c.requires.names (counted c.args.design.now))
