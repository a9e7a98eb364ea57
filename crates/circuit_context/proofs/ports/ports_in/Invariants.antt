use Rattle.std.proofs.Common.{◌≡◌, ℕ, map, take, length, slice_get, Some}
use Rattle.circuit_context.specs.Counting.{reached_by, row_in, tables_in}
use Rattle.circuit_context.proofs.ports.ports_in.Given as goal

abbrev pub invariant-loop-node : goal.invariant-loop-node
invariant-loop-node l = record {
  numbers : map (λ r. r.items) l.numbers.items ≡ map (row_in (tables_in l.memories)) (take l.node-index l.nodes);
  count : length l.counts.items ≡ length l.memories;
  counts : (a n : ℕ) → slice_get l.counts.items a ≡ Some n → n ≡ reached_by (tables_in l.memories) a 1 (take l.node-index l.nodes);
}
