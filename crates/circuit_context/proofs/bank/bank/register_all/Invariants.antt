use Rattle.std.proofs.Common.{take}
use Rattle.rtl_logic.specs.Making.{circuit}
use Rattle.circuit_context.specs.Bank.Slots.{AreRegistered}
use Rattle.circuit_context.proofs.bank.bank.register_all.Given as goal

abbrev pub invariant-loop-slot : goal.invariant-loop-slot
invariant-loop-slot l = AreRegistered (circuit l.initial.logic) (circuit l.logic) (take l.slot-index l.slots) l.roles.keys
