use Rattle.std.proofs.Common.{refl}
use Rattle.rtl_core.specs.Netlist.{netlist_of}
use Rattle.fsm_datapath.proofs.Built.{pruned_is_built}
use Rattle.fsm_datapath.proofs.build.pruned.Goals as goal

pub returns-clause-built : goal.returns-clause-built
returns-clause-built c =
    let valid = c.if-not-valid.ensures.0 refl in
    pruned_is_built c.args.cfg.now c.args.live c.args.registers.now (netlist_of c.in_ok-design.design) (netlist_of c.prune.new.design) c.in_ok-design.ensures valid (c.in_ok-prune.ensures valid)
