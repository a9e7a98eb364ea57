use Rattle.std.proofs.Common.{sym, subst}
use Rattle.std.specs.List.{All}
use Rattle.chain_link.specs.Bounds.{RegisterIsNear}
use Rattle.chain_link.proofs.Near.{back_registers_near, control_registers_near}
use Rattle.chain_link.proofs.linking.push_stage_registers.Goals as goal

pub push_registers-requires-clause-near : goal.push_registers-requires-clause-near
push_registers-requires-clause-near c = subst (All RegisterIsNear) (sym c.back_registers.ensures) (back_registers_near _)

pub push_registers-requires-2-clause-near : goal.push_registers-requires-2-clause-near
push_registers-requires-2-clause-near c = subst (All RegisterIsNear) (sym c.control_registers.ensures) control_registers_near

pub push_registers-requires-3-clause-near : goal.push_registers-requires-3-clause-near
push_registers-requires-3-clause-near c = subst (All RegisterIsNear) (sym c.deref.ensures.value) c.requires.small.near_regs
