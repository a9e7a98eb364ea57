use Rattle.std.proofs.Common.{◌≡◌, ◌++◌, ◌-◌, ◌*◌, ◌+◌, ◌≤◌}
use Rattle.std.specs.String.{string_bytes}
use Rattle.cosim_levels.specs.SoakProgram.{loop_lines, behind, count_products}
use Rattle.cosim_levels.proofs.program.push_loops.Given as goal

abbrev pub invariant-loop : goal.invariant-loop
invariant-loop l =
    (string_bytes l.text ++ loop_lines l.draws.x (40 - l.counter) ≡ string_bytes l.initial.text ++ loop_lines l.initial.draws.x 40)
    × (behind l.draws.x ((40 - l.counter) * 2) ≡ behind l.initial.draws.x 80)
    × (l.muls + count_products l.draws.x (40 - l.counter) ≡ count_products l.initial.draws.x 40)
    × (l.muls ≤ l.counter)
