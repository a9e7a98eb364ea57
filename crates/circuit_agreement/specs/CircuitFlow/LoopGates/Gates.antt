-- What the registers that all loops share hold while a loop is under way, and what is known of a block.
use Rattle.std.specs.Prelude.{◌≡◌, ℕ, suc, ◌+◌, ◌-◌, ◌*◌, ◌<◌, ◌≤◌, ◌&&◌, nat_le, Bool, true, false, not}
use Rattle.clock_ir.specs.Flows.{TimedBody, Flow, known, is_at, runs_at}
use Rattle.datapath.specs.Plans.{Plan, body_at}
use Rattle.datapath.specs.Cycles.{Gate, Passed, Waited, Contents, bit}
use Rattle.datapath.specs.Control.{has_test}
use Rattle.circuit_agreement.specs.CircuitFlow.LoopGates.Iterations.{tests, HasRun}

-- The intervals that have passed are marked. Where the loop may be left there is a gate for each test that was made, the last one first, and one more; and the cycles since a gate was shut are counted. Where it may not be left all iterations run.
pub record HoldsGates (p : Plan) (i exit : ℕ) (f : Flow) (x : Contents) : Type 0 where
  pub passed : (n : ℕ) → x.regs (Passed (suc n)) ≡ bit (nat_le (suc n * (body_at p i).interval) f.time)
  pub iterations : ℕ
  pub ran : HasRun (body_at p i) exit f iterations
  pub all_run : has_test p i ≡ false → iterations ≡ tests (body_at p i) f.time
  pub gates : has_test p i ≡ true → (k : ℕ) → k ≤ tests (body_at p i) f.time → x.regs (Gate k) ≡ bit (f.gates k)
  pub waited : has_test p i ≡ true → x.regs Waited ≡ f.time - suc (iterations * (body_at p i).interval + known (body_at p i))

-- a loop is left in this cycle
abbrev pub is_left : TimedBody → ℕ → Flow → Bool
is_left b exit f = is_at b.interval exit f.time && not (runs_at b f exit)

-- a block is under way, and its one iteration runs
pub record RunsOnce (b : TimedBody) (f : Flow) : Type 0 where
  pub time : f.time < b.interval
  pub runs : (k : ℕ) → f.gates k ≡ true
