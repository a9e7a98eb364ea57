use Rattle.std.proofs.Common.{◌≡◌}
use Rattle.ir_core.specs.Bodies.{Words}
use Rattle.clock_ir.specs.ClockRuns.{TimedProgram}
use Rattle.clock_machine.specs.Runs.{IsBehind, GoesOn}
use Rattle.clock_machine.proofs.machine.ClockMachine.steps_to_end.Given as goal

abbrev pub invariant-loop-steps : goal.invariant-loop-steps
invariant-loop-steps l = record {
  program : l.self.program ≡ l.initial.self.program;
  run : (p : TimedProgram) (t : Words) → IsBehind p t 0 l.initial.self → IsBehind p t l.steps l.self × GoesOn p t l.steps;
}
