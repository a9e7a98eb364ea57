use Rattle.std.proofs.Common.{◌≡◌}
use Rattle.rtl_units.proofs.table.level_above.Given as goal

abbrev pub invariant-loop-k : goal.invariant-loop-k
invariant-loop-k l = l.draft.regs.items ≡ l.initial.draft.regs.items
