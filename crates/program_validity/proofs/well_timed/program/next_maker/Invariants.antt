use Rattle.std.proofs.Common.{◌≡◌, drop}
use Rattle.modulo_loop.specs.Rules.{maker}
use Rattle.program_validity.proofs.well_timed.program.next_maker.Given as goal

abbrev pub invariant-loop-out : goal.invariant-loop-out
invariant-loop-out l = maker l.variable (drop l.out-index l.outs) ≡ maker l.variable l.outs
