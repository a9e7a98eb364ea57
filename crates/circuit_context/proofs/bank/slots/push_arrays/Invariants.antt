use Rattle.std.proofs.Common.{◌≡◌, map}
use Rattle.std.specs.List.{flat_map, range_with_len}
use Rattle.datapath.specs.Plans.{Plan, array_of}
use Rattle.circuit_context.specs.Wanted.Entries.{word_roles}
use Rattle.circuit_context.specs.Bank.Banks.{ArePortCounts}
use Rattle.circuit_context.specs.Bank.Slots.{Adds}
use Rattle.circuit_context.proofs.bank.slots.push_arrays.Given as goal

abbrev pub invariant-loop-number : goal.invariant-loop-number
invariant-loop-number l = (p : Plan) → map array_of l.memories ≡ p.arrays → ArePortCounts p l.ports → Adds p l.initial.slots.items l.slots.items (flat_map (word_roles p) (range_with_len 0 l.number))
