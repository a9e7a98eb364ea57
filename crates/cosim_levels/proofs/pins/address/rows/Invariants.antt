use Rattle.std.proofs.Common.{◌≡◌, ◌++◌, ◌-◌}
use Rattle.cosim_levels.specs.Pins.Addresses.{rows_at}
use Rattle.cosim_levels.proofs.pins.address.rows.Given as goal

abbrev pub invariant-loop : goal.invariant-loop
invariant-loop l = l.all.items ++ rows_at l.start l.size l.row (l.length - l.counter) ≡ rows_at 0 l.size l.row l.length
