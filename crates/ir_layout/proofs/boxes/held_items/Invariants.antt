use Rattle.std.proofs.Common.{◌≡◌, map}
use Rattle.ir_layout.proofs.boxes.held_items.Given as goal

abbrev pub invariant-loop-item : goal.invariant-loop-item
invariant-loop-item g l = map (λ b. b.value) l.boxes.items ≡ l.yielded
