use Rattle.std.proofs.Common.{◌≡◌, drop}
use Rattle.ir_layout.specs.Layout.{held_behind}
use Rattle.ir_layout.proofs.flat.left_in.Given as goal

abbrev pub invariant-loop-out : goal.invariant-loop-out
invariant-loop-out l = held_behind (drop l.out-index l.outs) l.variable.0 l.left ≡ held_behind l.outs l.variable.0 l.initial.left
