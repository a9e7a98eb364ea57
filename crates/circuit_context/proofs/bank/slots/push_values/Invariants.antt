use Rattle.std.proofs.Common.{◌≡◌, map}
use Rattle.std.specs.List.{range_with_len}
use Rattle.datapath.specs.Plans.{Plan}
use Rattle.circuit_context.specs.declared.wanted.role.Role.TheVariants as role
use Rattle.circuit_context.specs.Bank.Slots.{Adds}
use Rattle.circuit_context.proofs.bank.slots.push_values.Given as goal

abbrev pub invariant-loop-number : goal.invariant-loop-number
invariant-loop-number l = (p : Plan) → p.widths ≡ l.widths → Adds p l.initial.slots.items l.slots.items (map role.Value (range_with_len 0 l.number))
