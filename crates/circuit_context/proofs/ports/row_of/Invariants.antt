use Rattle.std.proofs.Common.{◌≡◌, [], take}
use Rattle.circuit_context.specs.Counting.{ports_from, tables_in, Counts}
use Rattle.circuit_context.proofs.ports.row_of.Given as goal

abbrev pub invariant-loop-op : goal.invariant-loop-op
invariant-loop-op l = record {
  row : l.row.items ≡ ports_from (tables_in l.memories) l.span l.ops [] (take l.op-index l.ops);
  counts : Counts l.span (take l.op-index l.ops) l.loads;
}
