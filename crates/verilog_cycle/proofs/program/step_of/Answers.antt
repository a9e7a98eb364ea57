use Rattle.rtl_core.specs.declared.design.Net.TheVariants as net
use Rattle.rtl_core.specs.Netlist.{netlist_of}
use Rattle.rtl_core.specs.ClockStep.{widths}
use Rattle.rtl_core.specs.Valid.{HasBits}
use Rattle.verilog_cycle.proofs.Widths.{as_net, operands_have}
use Rattle.verilog_cycle.proofs.program.step_of.Goals as goal

pub source_of-requires-clause-bits : goal.source_of-requires-clause-bits
source_of-requires-clause-bits c = (c.args.bits, as_net (netlist_of c.args.design.now) c.args.bits c.args.net (net.Copy c.in-Copy.a) c.in-Copy.is c.requires.fits)

pub source_of-requires-in-Not-clause-bits : goal.source_of-requires-in-Not-clause-bits
source_of-requires-in-Not-clause-bits c = (c.args.bits, as_net (netlist_of c.args.design.now) c.args.bits c.args.net (net.Not c.in-Not.a) c.in-Not.is c.requires.fits)

pub two_of-requires : goal.two_of-requires
two_of-requires c =
    let d = netlist_of c.args.design.now in
    let fits = as_net d c.args.bits c.args.net (net.Two c.in-Two.op c.in-Two.a c.in-Two.b) c.in-Two.is c.requires.fits in
    let have = operands_have c.in-Two.op c.args.bits (λ m. HasBits (widths d) m c.in-Two.a) (λ m. HasBits (widths d) m c.in-Two.b) fits in
    record { small = c.requires.small; a = have.0; b = have.1 }

pub pick_of-requires : goal.pick_of-requires
pick_of-requires c =
    let fits = as_net (netlist_of c.args.design.now) c.args.bits c.args.net (net.Pick c.in-Pick.test c.in-Pick.a c.in-Pick.b) c.in-Pick.is c.requires.fits in
    record { small = c.requires.small; test = (1, fits.0); a = (c.args.bits, fits.1); b = (c.args.bits, fits.2) }

pub source_of-requires-in-Word-clause-bits : goal.source_of-requires-in-Word-clause-bits
source_of-requires-in-Word-clause-bits c =
    let fits = as_net (netlist_of c.args.design.now) c.args.bits c.args.net (net.Word c.in-Word.mem c.in-Word.addr) c.in-Word.is c.requires.fits in
    (fits.0.depth_log, fits.2.wide)
