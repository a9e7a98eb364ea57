use Rattle.std.proofs.Common.{◌∙◌, ◌++◌, ap, map}
use Rattle.std.specs.List.{flat_map}
use Rattle.rtl_core.specs.declared.design.Pin.{Pin}
use Rattle.rtl_core.specs.declared.design.OutPin.{OutPin}
use Rattle.verilog_print.specs.PrintedText.{header_text}
use Rattle.verilog_print.proofs.PrinterTexts.{succeeded, two_lists}
use Rattle.verilog_print.proofs.printer.push_names.Goals as goal

pub returns : goal.returns
returns c =
    let d = c.args.design.now in
    let middle = c.push_input_names.new.out.items in
    succeeded c.push_output_names.result
    (λ e. two_lists header_text c.args.out.now.items middle c.push_output_names.new.out.items (map (λ (p : Pin). p.name) d.inputs.items) (map (λ (o : OutPin). o.name) d.outputs.items)
    (c.in_ok-push_input_names.ensures ∙ ap (λ ps. c.args.out.now.items ++ flat_map header_text (map (λ (p : Pin). p.name) ps)) c.as_slice.ensures.value)
    (e ∙ ap (λ os. middle ++ flat_map header_text (map (λ (o : OutPin). o.name) os)) c.as_slice-2.ensures.value))
    c.push_output_names.ensures
