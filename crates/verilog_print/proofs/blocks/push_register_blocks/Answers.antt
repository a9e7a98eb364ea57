use Rattle.std.proofs.Common.{get_or}
use Rattle.std.proofs.lemmas.List.{get_or_default}
use Rattle.rtl_core.specs.declared.design.Atom.TheVariants as atom
use Rattle.rtl_core.specs.declared.design.Reg.{Reg}
use Rattle.verilog_print.specs.PrintedSyntax.{register_block}
use Rattle.verilog_print.specs.PrintedText.{always_text}
use Rattle.verilog_print.proofs.Loops.{loop_step}
use Rattle.verilog_print.proofs.BlockTexts.{register_blocks_text, registers_in_turn}
use Rattle.verilog_print.proofs.blocks.push_register_blocks.Goals as goal

-- what a read past the end would give
absent : Reg
absent = record { bits = 0; enable = atom.Constant 0 0; next = atom.Constant 0 0 }

pub loop-k-preserved : goal.loop-k-preserved
unfolding absent
loop-k-preserved c =
    let pins = c.args.pins.now in
    let regs = c.args.regs.now in
    let reg = get_or regs c.loop-k.k absent in
    loop_step (register_blocks_text pins) (λ k r. always_text (register_block pins k r)) (registers_in_turn pins) regs c.loop-k.k reg _ _ _ c.loop-k-test.true
    (get_or_default regs c.loop-k.k absent reg c.loop-k-test.true) c.loop-k.invariant c.in_ok-push_register_block.ensures
