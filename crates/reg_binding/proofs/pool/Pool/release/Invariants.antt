use Rattle.std.proofs.Common.{◌≡◌, ℕ, ◌+◌, ◌≤◌, List, length}
use Rattle.reg_binding.specs.declared.life.Life.{Life}
use Rattle.reg_binding.specs.Pools.{IsPool}
use Rattle.reg_binding.proofs.pool.Pool.release.Given as goal

abbrev pub invariant-loop-turn : goal.invariant-loop-turn
invariant-loop-turn l = record {
  width : l.self.width ≡ l.fn.self.width;
  left : length l.self.busy.keys + l._turn ≡ length l.fn.self.busy.keys;
  pool : (lives : List Life) (n : ℕ) (choices widths : List ℕ) (before : ℕ) → before ≤ l.time → IsPool lives n choices widths before l.fn.self → IsPool lives n choices widths l.time l.self;
}
