use Rattle.std.proofs.Common.{map}
use Rattle.std.specs.List.{range_with_len}
use Rattle.datapath.specs.Plans.{Plan}
use Rattle.circuit_context.specs.declared.wanted.role.Role.TheVariants as role
use Rattle.circuit_context.specs.Bank.Slots.{Adds}
use Rattle.circuit_context.proofs.bank.slots.push_stages.Given as goal

abbrev pub invariant-loop-before : goal.invariant-loop-before
invariant-loop-before l = (p : Plan) → Adds p l.initial.slots.items l.slots.items (map role.Passed (range_with_len 1 l.before))
