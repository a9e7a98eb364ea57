use Rattle.std.proofs.Common.{◌∙◌, ◌++◌, ap, map}
use Rattle.std.specs.List.{flat_map}
use Rattle.rtl_core.specs.Netlist.{memory_of}
use Rattle.verilog_print.specs.PrintedSyntax.{numbered, register_block, memory_blocks}
use Rattle.verilog_print.specs.PrintedText.{always_text}
use Rattle.verilog_print.proofs.PrinterTexts.{succeeded, two_lists}
use Rattle.verilog_print.proofs.printer.push_blocks.Goals as goal

pub returns : goal.returns
returns c =
    let d = c.args.design.now in
    let old = c.args.out.now.items in
    let middle = c.push_register_blocks.new.out.items in
    succeeded c.push_memory_blocks.result
    (λ e. two_lists always_text old middle c.push_memory_blocks.new.out.items (numbered (register_block d.inputs.items) 0 d.regs.items) (memory_blocks d.inputs.items 0 (map memory_of d.mems.items))
    (c.in_ok-push_register_blocks.ensures
    ∙ ap (λ ps. old ++ flat_map always_text (numbered (register_block ps) 0 c.as_slice-2.result.now)) c.as_slice.ensures.value
    ∙ ap (λ rs. old ++ flat_map always_text (numbered (register_block d.inputs.items) 0 rs)) c.as_slice-2.ensures.value)
    (e
    ∙ ap (λ ps. middle ++ flat_map always_text (memory_blocks ps 0 (map memory_of c.as_slice-4.result.now))) c.as_slice-3.ensures.value
    ∙ ap (λ ms. middle ++ flat_map always_text (memory_blocks d.inputs.items 0 (map memory_of ms))) c.as_slice-4.ensures.value))
    c.push_memory_blocks.ensures
