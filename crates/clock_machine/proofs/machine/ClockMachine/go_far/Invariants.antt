use Rattle.std.proofs.Common.{◌≡◌, ◌+◌, ◌-◌, ◌≤◌, ℕ}
use Rattle.ir_core.specs.Bodies.{Words}
use Rattle.ir_core.specs.Halts.{HasHalted}
use Rattle.clock_ir.specs.ClockRuns.{TimedProgram}
use Rattle.clock_machine.specs.Halts.{halt_at}
use Rattle.clock_machine.specs.Runs.{IsBehind}
use Rattle.clock_machine.proofs.machine.ClockMachine.go_far.Given as goal

abbrev pub invariant-loop-left : goal.invariant-loop-left
invariant-loop-left l = record {
  stays : HasHalted (halt_at l.initial.self.state.position) → l.self ≡ l.initial.self;
  none : l.steps ≡ 0 → l.self ≡ l.initial.self;
  program : l.self.program ≡ l.initial.self.program;
  within : l.left ≤ l.steps;
  run : (p : TimedProgram) (t : Words) (n : ℕ) → IsBehind p t n l.initial.self → IsBehind p t (n + (l.steps - l.left)) l.self;
}

abbrev pub decreases-loop-left : goal.decreases-loop-left
decreases-loop-left l = l.left
