use Rattle.std.proofs.Common.{◌≡◌}
use Rattle.rtl_units.proofs.table.table.Given as goal

abbrev pub invariant-loop-number : goal.invariant-loop-number
invariant-loop-number l = l.draft.regs.items ≡ l.initial.draft.regs.items
