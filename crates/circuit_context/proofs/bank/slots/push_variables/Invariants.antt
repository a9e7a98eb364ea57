use Rattle.std.proofs.Common.{◌≡◌, ℕ, map}
use Rattle.std.specs.List.{range_with_len}
use Rattle.datapath.specs.Plans.{Plan}
use Rattle.circuit_context.specs.declared.wanted.role.Role.TheVariants as role
use Rattle.circuit_context.specs.Wanted.Entries.{variable_of}
use Rattle.circuit_context.specs.Bank.Slots.{Adds}
use Rattle.circuit_context.proofs.bank.slots.push_variables.Given as goal

abbrev pub invariant-loop-number : goal.invariant-loop-number
invariant-loop-number l = (p : Plan) → p.program.shapes.widths ≡ l.widths → Adds p l.initial.slots.items l.slots.items (map (λ (v : ℕ). role.Variable (variable_of v)) (range_with_len 0 l.number))
