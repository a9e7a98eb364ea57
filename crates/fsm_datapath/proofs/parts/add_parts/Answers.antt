use Rattle.std.proofs.Common.{◌∙◌, ap}
use Rattle.datapath.specs.Plans.{Plan}
use Rattle.rtl_core.specs.Netlist.{Netlist}
use Rattle.rtl_logic.specs.Making.{circuit}
use Rattle.circuit_context.specs.Wanted.Entries.{all_demands}
use Rattle.circuit_context.specs.Bank.Banks.{names_of}
use Rattle.circuit_units.specs.Units.{registers_of}
use Rattle.fsm_datapath.specs.AssembledCircuits.Parts.{whole_names}
use Rattle.fsm_datapath.proofs.AssembledCircuits.Distinct.{whole_distinct}
use Rattle.fsm_datapath.proofs.Growing.{pushes_more}
use Rattle.fsm_datapath.proofs.Composing.{all_pushed, context_more, parts_are, all_short, shorts_are}
use Rattle.fsm_datapath.proofs.parts.add_parts.Goals as goal

pub returns : goal.returns
returns c = λ p can.
    let of = c.args.of.now in
    let bank = of.bank in
    let names = names_of bank in
    let table = c.in_ok-units.units in
    let d = circuit c.args.logic.now in
    let d1 = circuit c.collect.new.logic in
    let d2 = circuit c.add_units.new.logic in
    let e = circuit c.add_memories.new.logic in
    let pushes = c.collect.new.log.pushes.items in
    let logs = c.in_ok-computed.ensures.logs p names can.context can.begun in
    let pushed = all_pushed p names d d1 c.new-demands.result.pushes.items pushes (all_demands p) c.new-demands.ensures logs in
    let groups = c.in_ok-groups.ensures in
    let u = c.in_ok-units.ensures.adds p names pushes can.context logs.begun pushed groups in
    let answers = c.in_ok-units.ensures.answers p names pushes can.context logs.begun pushed groups in
    let m = c.in_ok-ports.ensures p (whole_names p bank table) pushes (context_more p (registers_of p table) of can.context) u.begun
    (whole_distinct p bank table can.names can.distinct u.units)
    (u.memories ∙ (ap (λ (n : Netlist). n.mems) logs.appends.is ∙ can.none))
    (pushes_more p names (registers_of p table) d1 d2 pushes (all_demands p) logs.begun u.begun u.extends pushed) groups in
    parts_are p bank d d1 d2 e (record { computed = c.in_ok-computed.computed; units = table; ports = c.in_ok-ports.ports }) logs.begun logs.appends u answers m
    (c.in_ok-computed.ensures.computed p names can.context can.begun) can.names
    (shorts_are of.cfg.now.frame.memories.items p.arrays (ap (λ (q : Plan). q.arrays) can.context.plan)
    (all_short of.cfg.now of.buildable.valid))
