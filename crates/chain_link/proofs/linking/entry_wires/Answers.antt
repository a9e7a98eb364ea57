use Rattle.std.proofs.Common.{sym, subst}
use Rattle.std.specs.List.{All}
use Rattle.chain_link.specs.Bounds.{WireIsNear}
use Rattle.chain_link.proofs.Near.{low_near, front_near, both_near}
use Rattle.chain_link.proofs.linking.entry_wires.Goals as goal

pub push_wires-requires-clause-near : goal.push_wires-requires-clause-near
push_wires-requires-clause-near c = subst (All WireIsNear) (sym c.low_wires.ensures) low_near

pub push_wires-requires-2-clause-near : goal.push_wires-requires-2-clause-near
push_wires-requires-2-clause-near c = subst (All WireIsNear) (sym c.front_wires-front.ensures) (front_near _ _ _)

pub push_wires-requires-3-clause-near : goal.push_wires-requires-3-clause-near
push_wires-requires-3-clause-near c = subst (All WireIsNear) (sym c.both_wires.ensures) both_near
