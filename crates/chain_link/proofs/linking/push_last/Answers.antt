use Rattle.std.proofs.Common.{sym, subst}
use Rattle.std.specs.List.{All}
use Rattle.chain_link.specs.Linking.{take_part, last_part}
use Rattle.chain_link.specs.Bounds.{WireIsNear, RegisterIsNear, PortIsNear}
use Rattle.chain_link.proofs.Near.{both_near, back_near, back_registers_near, ports_near}
use Rattle.chain_link.proofs.Pushing.{part_pushed, two_pushed}
use Rattle.chain_link.proofs.linking.push_last.Goals as goal

pub push_wires-requires-clause-near : goal.push_wires-requires-clause-near
push_wires-requires-clause-near c = subst (All WireIsNear) (sym c.both_wires.ensures) both_near

pub push_wires-requires-2-clause-near : goal.push_wires-requires-2-clause-near
push_wires-requires-2-clause-near c = subst (All WireIsNear) (sym c.back_wires.ensures) (back_near _)

pub push_registers-requires-clause-near : goal.push_registers-requires-clause-near
push_registers-requires-clause-near c = subst (All RegisterIsNear) (sym c.back_registers.ensures) (back_registers_near _)

pub renamed_ports-requires-clause-near : goal.renamed_ports-requires-clause-near
renamed_ports-requires-clause-near c = subst (All PortIsNear) (sym c.back_ports.ensures) (ports_near _)

pub returns-clause-wires : goal.returns-clause-wires
returns-clause-wires c =
    let p = take_part c.args.joint.sizes c.args.joint.queue in
    let q = last_part c.args.joint.log c.args.joint.sizes c.args.joint.queue in
    two_pushed _ c.push_wires.new.all.items _ p q (part_pushed _ _ _ _ p c.in_ok-push_wires.ensures c.in_ok-take_spot.ensures.place c.both_wires.ensures)
    (part_pushed _ _ _ _ q c.in_ok-push_wires-2.ensures c.in_ok-spot.ensures.place c.back_wires.ensures)
