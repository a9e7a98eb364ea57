use Rattle.std.proofs.Common.{◌≡◌, ◌≤◌, ◌+◌}
use Rattle.flat_programs.specs.Machine.Rest.{IsWhole, rest}
use Rattle.stage_runs.specs.Points.{HasPassed}
use Rattle.stage_runs.proofs.running.run_to_end.Given as goal

abbrev pub invariant-loop-steps : goal.invariant-loop-steps
invariant-loop-steps l =
    (l.machine.cfg.now ≡ l.initial.machine.cfg.now)
    × (l.initial.meter.left ≤ l.meter.left + l.steps)
    × (IsWhole l.initial.machine.cfg.now → HasPassed l.steps (rest l.initial.machine.cfg.now l.initial.machine.state) (rest l.machine.cfg.now l.machine.state) l.initial.meter.counts l.meter.counts)
