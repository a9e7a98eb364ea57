use Rattle.std.proofs.Common.{◌≡◌, ℕ, ◌+◌, ◌<◌, ◌≤◌, ◌^◌, true, Some, slice_index, slice_get}
use Rattle.ir_core.specs.declared.body.Op.{Op}
use Rattle.ir_core.specs.declared.stamp.Untimed.{Untimed}
use Rattle.dep_graph.specs.Meetings.{is_store}
use Rattle.modulo_loop.specs.Lowest.{StoresAreDone}
use Rattle.modulo_loop.proofs.exit.stores_done.Given as goal

abbrev pub invariant-loop-number : goal.invariant-loop-number
invariant-loop-number l = record {
  small : l.exit < 2 ^ 32;
  done : (k : ℕ) (op : Op Untimed) → k < l.number → slice_get l.ops k ≡ Some op → is_store op.kind ≡ true → slice_index l.times (k + 1) + 1 ≤ l.exit + l.ii;
  least : (exit : ℕ) → StoresAreDone l.ops l.times l.ii exit → l.exit ≤ exit;
}
