use Rattle.std.proofs.Common.{◌≡◌, ◌++◌, map, take, drop}
use Rattle.rtl_core.specs.declared.design.OutPin.{OutPin}
use Rattle.verilog_cycle.specs.Inside.{value_in}
use Rattle.verilog_cycle.proofs.expression.show.Given as goal

abbrev pub invariant-loop-k : goal.invariant-loop-k
invariant-loop-k l = record {
  whole : map (λ (o : OutPin). value_in l.values o.from) l.outputs ≡ take l.k l.outs ++ map (λ (o : OutPin). value_in l.values o.from) (drop l.k l.outputs);
}
