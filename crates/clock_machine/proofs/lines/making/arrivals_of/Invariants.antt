use Rattle.std.proofs.Common.{◌≡◌, map, take}
use Rattle.clock_machine.specs.declared.lines.program.Action.{Action}
use Rattle.clock_machine.proofs.lines.making.arrivals_of.Given as goal

abbrev pub invariant-loop-action : goal.invariant-loop-action
invariant-loop-action l = l.times.items ≡ map (λ (a : Action). a.ready) (take l.action-index l.actions)
