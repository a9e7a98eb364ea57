use Rattle.std.proofs.Common.{◌≡◌, ℕ, ◌+◌, ◌-◌, ◌<◌, ◌≤◌, length, slice_index, drop}
use Rattle.std.specs.Prelude.{count_by, ◌==◌}
use Rattle.diff_solve.specs.Passes.{Back, AllEntered}
use Rattle.diff_solve.proofs.solve.cycle_behind.Given as goal

abbrev pub invariant-loop-node : goal.invariant-loop-node
invariant-loop-node l = record {
  in_range : l.node < length l.entered;
  back : Back l.constraints l.start l.trail.items l.node;
  entered : AllEntered l.constraints l.entered l.trail.items;
  marked : (x : ℕ) → 0 < slice_index l.seen x → (slice_index l.seen x ≤ length l.trail.items) × Back l.constraints x (drop (slice_index l.seen x - 1) l.trail.items) l.node;
  counted : length l.trail.items + count_by (λ x. x == 0) l.seen ≡ length l.entered;
  kept : length l.seen ≡ length l.entered;
}

abbrev pub decreases-loop-node : goal.decreases-loop-node
decreases-loop-node l = count_by (λ x. x == 0) l.seen
