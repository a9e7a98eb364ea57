use Rattle.rtl_core.specs.Netlist.{netlist_of}
use Rattle.fsm_datapath.proofs.Built.{renamed_is_built}
use Rattle.fsm_datapath.proofs.build.build.Goals as goal

pub returns-clause-built : goal.returns-clause-built
returns-clause-built c = renamed_is_built c.args.cfg.now c.args.live c.args.registers.now (netlist_of c.in_ok-design.design) c.in_ok-name_of_module.field-0 c.in_ok-design.ensures.built
