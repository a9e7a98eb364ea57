use Rattle.std.proofs.Common.{arith}
use Rattle.rtl_logic.proofs.Setting.{set_at, none_set}
use Rattle.rtl_logic.proofs.logic.set_next.Goals as goal

pub returns-then-k-regs : goal.returns-then-k-regs
returns-then-k-regs c = set_at c.args.regs.now c.args.number c.args.enable c.args.next _ (omega (arith, c.if-k-regs.true))

pub returns-else-k-regs : goal.returns-else-k-regs
returns-else-k-regs c = none_set c.args.regs.now c.args.number c.args.enable c.args.next (omega (arith, c.if-k-regs.false))
