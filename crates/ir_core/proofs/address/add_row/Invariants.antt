use Rattle.std.proofs.Common.{◌≡◌, ◌++◌, ◌+◌, ◌%◌, ◌^◌, map, take}
use Rattle.ir_core.proofs.address.add_row.Given as goal

abbrev pub invariant-loop-low : goal.invariant-loop-low
invariant-loop-low l = l.all.items ≡ l.initial.all.items ++ map (λ low. (l.start + low) % 2 ^ 64) (take l.low-index l.row)
