use Rattle.rtl_core.specs.Netlist.{netlist_of}
use Rattle.rtl_core.specs.ClockStep.{widths}
use Rattle.timing_path.proofs.NamedWires.{two_have_bits}
use Rattle.timing_path.proofs.delays.net_delay.Goals as goal

pub pair_delay-requires-clause-left : goal.pair_delay-requires-clause-left
pair_delay-requires-clause-left c =
    let d = netlist_of c.args.design.now in
    (two_have_bits (widths d) d.mems c.args.net c.in-Two.op c.in-Two.left c.in-Two.right c.in-Two.is c.requires.0 c.requires.1).0

pub pair_delay-requires-clause-right : goal.pair_delay-requires-clause-right
pair_delay-requires-clause-right c =
    let d = netlist_of c.args.design.now in
    (two_have_bits (widths d) d.mems c.args.net c.in-Two.op c.in-Two.left c.in-Two.right c.in-Two.is c.requires.0 c.requires.1).1
