use Rattle.std.proofs.Common.{◌≡◌, ℕ, map}
use Rattle.std.specs.List.{range_with_len}
use Rattle.datapath.specs.Plans.{Plan, array_at}
use Rattle.circuit_context.specs.declared.wanted.role.Role.TheVariants as role
use Rattle.circuit_context.specs.Bank.Slots.{Adds}
use Rattle.circuit_context.proofs.bank.slots.push_words.Given as goal

abbrev pub invariant-loop-port : goal.invariant-loop-port
invariant-loop-port l = (p : Plan) → l.bits ≡ (array_at p l.array.0).bits → Adds p l.initial.slots.items l.slots.items (map (λ (n : ℕ). role.Word l.array n) (range_with_len 0 l.port))
