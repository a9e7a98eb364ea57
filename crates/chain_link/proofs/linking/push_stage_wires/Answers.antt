use Rattle.std.proofs.Common.{sym, subst}
use Rattle.std.specs.List.{All}
use Rattle.rtl_core.specs.Netlist.{netlist_of}
use Rattle.chain_link.specs.Linking.{asked_part, front_part, control_part, back_part, started_part}
use Rattle.chain_link.specs.Bounds.{WireIsNear}
use Rattle.chain_link.proofs.Pushing.{part_pushed, five_pushed}
use Rattle.chain_link.proofs.linking.push_stage_wires.Goals as goal

pub push_wires-requires-clause-near : goal.push_wires-requires-clause-near
push_wires-requires-clause-near c = subst (All WireIsNear) (sym c.deref.ensures.value) c.requires.small.near_wires

pub returns : goal.returns
returns c =
    let d = netlist_of c.args.stage.now in
    let t = started_part c.args.joint.sizes c.args.joint.queue d in
    five_pushed _ c.push_asked.new.all.items c.push_between.new.all.items _ (asked_part c.args.joint.sizes c.args.joint.queue d) (front_part c.args.joint.depth c.args.joint.log c.args.joint.sizes d)
    (control_part c.args.joint.sizes c.args.joint.queue d) (back_part c.args.joint.log c.args.joint.sizes c.args.joint.queue d) t c.in_ok-push_asked.ensures c.in_ok-push_between.ensures
    (part_pushed _ _ _ _ t c.in_ok-push_wires.ensures c.in_ok-started_spot.ensures.place c.deref.ensures.value)
