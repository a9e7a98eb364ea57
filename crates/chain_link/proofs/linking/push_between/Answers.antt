use Rattle.std.proofs.Common.{ap, ◌∙◌, sym, subst}
use Rattle.std.specs.List.{All}
use Rattle.rtl_core.specs.Netlist.{netlist_of}
use Rattle.chain_link.specs.Units.{front_wires}
use Rattle.chain_link.specs.Linking.{front_part, control_part, back_part}
use Rattle.chain_link.specs.Bounds.{WireIsNear}
use Rattle.chain_link.proofs.Near.{front_near, control_near, back_near}
use Rattle.chain_link.proofs.Pushing.{part_pushed, three_pushed}
use Rattle.chain_link.proofs.linking.push_between.Goals as goal

pub push_wires-requires-clause-near : goal.push_wires-requires-clause-near
push_wires-requires-clause-near c = subst (All WireIsNear) (sym c.front_wires-front.ensures) (front_near _ _ _)

pub push_wires-requires-2-clause-near : goal.push_wires-requires-2-clause-near
push_wires-requires-2-clause-near c = subst (All WireIsNear) (sym c.control_wires.ensures) control_near

pub push_wires-requires-3-clause-near : goal.push_wires-requires-3-clause-near
push_wires-requires-3-clause-near c = subst (All WireIsNear) (sym c.back_wires.ensures) (back_near _)

pub returns : goal.returns
returns c =
    let d = netlist_of c.args.stage.now in
    let p = front_part c.args.joint.depth c.args.joint.log c.args.joint.sizes d in
    let q = control_part c.args.joint.sizes c.args.joint.queue d in
    let r = back_part c.args.joint.log c.args.joint.sizes c.args.joint.queue d in
    three_pushed _ c.push_wires.new.all.items c.push_wires-2.new.all.items _ p q r
    (part_pushed _ _ _ _ p c.in_ok-push_wires.ensures c.front_spot.ensures.place (c.front_wires-front.ensures ∙ ap (front_wires c.args.joint.depth c.args.joint.log) c.result_bits.ensures))
    (part_pushed _ _ _ _ q c.in_ok-push_wires-2.ensures c.in_ok-control_spot.ensures.place c.control_wires.ensures)
    (part_pushed _ _ _ _ r c.in_ok-push_wires-3.ensures c.in_ok-back_spot.ensures.place c.back_wires.ensures)
