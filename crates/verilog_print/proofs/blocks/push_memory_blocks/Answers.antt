use Rattle.std.proofs.Common.{ap, ◌∙◌, ◌++◌}
use Rattle.rtl_core.specs.declared.design.Mem.{Mem}
use Rattle.verilog_print.proofs.Loops.{loop_step}
use Rattle.verilog_print.proofs.BlockTexts.{memory_blocks_text, ports_text, memories_in_turn}
use Rattle.verilog_print.proofs.blocks.push_memory_blocks.Goals as goal

pub loop-k-preserved : goal.loop-k-preserved
loop-k-preserved c =
    let pins = c.args.pins.now in
    loop_step (memory_blocks_text pins) (λ k (m : Mem). ports_text pins k m.ports.items) (memories_in_turn pins) c.args.mems.now c.loop-k.k c.index-mems-k.result _ _ _ c.loop-k-test.true c.index-mems-k.is c.loop-k.invariant
    (c.in_ok-push_ports_block.ensures ∙ ap (λ ports. c.loop-k.out.items ++ ports_text pins c.loop-k.k ports) c.as_slice.ensures.value)
