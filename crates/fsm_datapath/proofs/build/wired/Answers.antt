use Rattle.std.proofs.Common.{sym, ap, subst}
use Rattle.ir_core.specs.declared.cfg.Cfg.{Cfg}
use Rattle.ir_core.specs.declared.timed.Timed.{Timed}
use Rattle.reg_binding.specs.declared.live.Live.{Live}
use Rattle.rtl_core.specs.Netlist.{netlist_of}
use Rattle.rtl_core.specs.FramePins.{module_name}
use Rattle.rtl_logic.specs.Making.{circuit}
use Rattle.circuit_units.specs.Units.{registers_of}
use Rattle.fsm_datapath.specs.AssembledCircuits.Parts.{whole_names}
use Rattle.fsm_datapath.specs.Making.{plan_in, HasOutputs, IsWhole}
use Rattle.fsm_datapath.proofs.Composing.{context_more}
use Rattle.fsm_datapath.proofs.Whole.{can_compute, still_idle, whole_is}
use Rattle.fsm_datapath.proofs.build.wired.Goals as goal

pub returns : goal.returns
returns c =
    let cfg = c.args.cfg.now in
    let live = c.args.live in
    let registers = c.args.registers.now in
    let of = c.in_ok-of.of in
    let parts = c.in_ok-parts.parts in
    let p = plan_in cfg registers of.live in
    let name = module_name cfg.frame.name in
    let d = circuit c.in_ok-logic.logic in
    let d1 = circuit c.context_of.new.logic in
    let d2 = circuit c.add_parts.new.logic in
    let d3 = circuit c.add_moves.new.logic in
    let e = circuit c.add_outputs.new.logic in
    let names = whole_names p of.bank parts.units in
    let h = c.in_ok-of.ensures in
    let is = c.in_ok-logic.ensures in
    let can = can_compute cfg live registers of name d d1 h is in
    let has = c.in_ok-parts.ensures p can in
    let context = context_more p (registers_of p parts.units) of can.context in
    let moves = c.in_ok-add_moves.ensures p names context has.begun can.names (still_idle cfg live registers of name d d1 d2 parts h is has) has.computed has.answers in
    let outs = subst (λ (x : Cfg Timed). HasOutputs p names x.frame d3 e) h.cfg_ (c.in_ok-add_outputs.ensures p names context moves.drives.begun) in
    subst (IsWhole cfg live registers) (sym (ap netlist_of c.finish.ensures))
    (subst (λ (l : Live). IsWhole cfg l registers e) h.live_ (record { bank = of.bank; parts = parts; whole = whole_is cfg live registers of name d d1 d2 d3 e parts h is has moves outs }))
