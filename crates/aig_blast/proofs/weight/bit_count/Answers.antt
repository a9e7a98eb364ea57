use Rattle.std.proofs.Common.{refl}
use Rattle.rtl_core.specs.Netlist.{netlist_of}
use Rattle.rtl_core.specs.ClockStep.{widths}
use Rattle.aig_blast.proofs.Sizes.{shapes_read, count_is}
use Rattle.aig_blast.proofs.weight.bit_count.Goals as goal

pub memory_bits-requires : goal.memory_bits-requires
memory_bits-requires c = shapes_read (widths (netlist_of c.args.design.now)) c.as_slice-3.result.now c.args.design.now.mems.items c.as_slice-3.ensures.value c.requires.mems

pub returns : goal.returns
returns c =
    count_is (netlist_of c.args.design.now) _ _ _ c.args.design.now.mems.items _ _ _ c.as_slice.ensures.value c.as_slice-2.ensures.value c.as_slice-3.ensures.value refl c.input_bits-inputs.ensures.value
    c.register_bits-regs.ensures.value c.memory_bits.ensures.value
