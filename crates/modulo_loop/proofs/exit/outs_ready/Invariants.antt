use Rattle.std.proofs.Common.{ℕ, ◌<◌, ◌≤◌, ◌^◌, take}
use Rattle.modulo_loop.specs.Lowest.{OutsAreReady}
use Rattle.modulo_loop.proofs.exit.outs_ready.Given as goal

abbrev pub invariant-loop-out : goal.invariant-loop-out
invariant-loop-out l = record {
  small : l.exit < 2 ^ 32;
  enough : OutsAreReady l.ops (take l.out-index l.outs) l.times l.ii l.exit;
  least : (exit : ℕ) → OutsAreReady l.ops l.outs l.times l.ii exit → l.exit ≤ exit;
}
