use Rattle.std.proofs.Common.{◌<◌, length, arith}
use Rattle.rtl_core.specs.Netlist.{netlist_of}
use Rattle.verilog_cycle.proofs.Settling.{wire_at_fits}
use Rattle.verilog_cycle.proofs.program.program_of.Goals as goal

pub instruction_of-requires : goal.instruction_of-requires
instruction_of-requires c =
    let inside : c.loop-k.k < length c.args.design.now.wires.items = omega (arith, c.loop-k-test.true) in
    record { small = c.requires.small; fits = (wire_at_fits (netlist_of c.args.design.now) c.requires.valid.wires c.loop-k.k c.index.result.now inside c.index.ensures).1 }
