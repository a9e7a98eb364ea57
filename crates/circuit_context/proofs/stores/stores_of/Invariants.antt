use Rattle.std.proofs.Common.{take}
use Rattle.circuit_context.specs.Counting.{AreStores}
use Rattle.circuit_context.proofs.stores.stores_of.Given as goal

abbrev pub invariant-loop-op : goal.invariant-loop-op
invariant-loop-op l = AreStores l.span (take l.op-index l.ops) l.stores
