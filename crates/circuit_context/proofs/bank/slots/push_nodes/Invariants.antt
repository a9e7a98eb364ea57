use Rattle.std.proofs.Common.{map, take}
use Rattle.std.specs.List.{enumerate_from, flat_map}
use Rattle.clock_ir.specs.ClockRuns.{timed_node}
use Rattle.datapath.specs.Plans.{Plan}
use Rattle.circuit_context.specs.Wanted.Entries.{node_roles}
use Rattle.circuit_context.specs.Bank.Slots.{Adds}
use Rattle.circuit_context.proofs.bank.slots.push_nodes.Given as goal

abbrev pub invariant-loop-number : goal.invariant-loop-number
invariant-loop-number l = (p : Plan) → Adds p l.initial.slots.items l.slots.items (flat_map node_roles (enumerate_from 0 (map timed_node (take l.number l.nodes))))
