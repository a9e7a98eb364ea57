use Rattle.std.proofs.Common.{sym, subst}
use Rattle.std.specs.List.{All}
use Rattle.chain_link.specs.Bounds.{PortIsNear}
use Rattle.chain_link.proofs.Near.{ports_near}
use Rattle.chain_link.proofs.linking.push_stage_memory.Goals as goal

pub renamed_ports-requires-clause-near : goal.renamed_ports-requires-clause-near
renamed_ports-requires-clause-near c = subst (All PortIsNear) (sym c.back_ports.ensures) (ports_near _)
