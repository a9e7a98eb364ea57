use Rattle.std.proofs.Common.{◌≡◌, drop}
use Rattle.dep_graph.specs.Offsets.{maker}
use Rattle.dep_graph.proofs.counter.maker.Given as goal

abbrev pub invariant-loop-out : goal.invariant-loop-out
invariant-loop-out l = maker (drop l.out-index l.outs) l.variable.0 ≡ maker l.outs l.variable.0
