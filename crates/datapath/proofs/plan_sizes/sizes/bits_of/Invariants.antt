use Rattle.std.proofs.Common.{◌≡◌, ◌≤◌, ◌^◌, take}
use Rattle.std.specs.Prelude.{nat_le, count_by}
use Rattle.std.specs.List.{range_with_len}
use Rattle.datapath.proofs.plan_sizes.sizes.bits_of.Given as goal

abbrev pub invariant-loop-place : goal.invariant-loop-place
invariant-loop-place l = (l.bits ≡ count_by (λ k. nat_le (2 ^ k) l.number) (take l.place (range_with_len 0 64))) × (l.bits ≤ l.place)
