use Rattle.std.proofs.Common.{◌≡◌, ◌++◌, ◌-◌}
use Rattle.cosim_levels.specs.SoakProgram.{drawn, behind}
use Rattle.cosim_levels.proofs.program.drawn.Given as goal

abbrev pub invariant-loop : goal.invariant-loop
invariant-loop l =
    (l.words.items ++ drawn l.draws.x (l.count - l.counter) ≡ drawn l.initial.draws.x l.count)
    × (behind l.draws.x (l.count - l.counter) ≡ behind l.initial.draws.x l.count)
