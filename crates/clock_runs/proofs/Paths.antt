-- Edges of the clock, one after another, from any phase.
use Rattle.std.proofs.Common.{◌≡◌, ℕ, zero, suc, ◌+◌, ◌∙◌, refl, ap, arith}
use Rattle.ir_core.specs.Bodies.{Words}
use Rattle.clock_ir.specs.ClockRuns.{TimedProgram, Phase, starting, clock_step, clock_run}

abbrev pub run_from : TimedProgram → Phase → ℕ → Phase
run_from p c zero = c
run_from p c (suc n) = clock_step p (run_from p c n)

pub from_start : (p : TimedProgram) (t : Words) (n : ℕ) → clock_run p t n ≡ run_from p (starting t) n
unfolding clock_run
from_start p t zero = refl
from_start p t (suc n) = ap (clock_step p) (from_start p t n)

pub run_on : (p : TimedProgram) (c : Phase) (a b : ℕ) → run_from p c (a + b) ≡ run_from p (run_from p c a) b
run_on p c a zero = ap (run_from p c) (let z : a + 0 ≡ a = omega arith in z)
run_on p c a (suc b) = ap (run_from p c) (let z : a + suc b ≡ suc (a + b) = omega arith in z) ∙ ap (clock_step p) (run_on p c a b)
