use Rattle.std.proofs.Common.{◌≡◌, ◌<◌, ◌≤◌, ℕ, length, Some}
use Rattle.std.specs.Prelude.{slice_get}
use Rattle.ir_core.specs.declared.body.Op.{Op}
use Rattle.ir_core.specs.declared.stamp.Untimed.{Untimed}
use Rattle.flat_programs.proofs.machine.room.most_args.Given as goal

abbrev pub invariant-loop-op : goal.invariant-loop-op
invariant-loop-op l = (k : ℕ) (op : Op Untimed) → k < l.op-index → slice_get l.ops k ≡ Some op → length op.args.items ≤ l.most
